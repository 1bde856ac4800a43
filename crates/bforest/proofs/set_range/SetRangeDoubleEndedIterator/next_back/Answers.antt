use Rattle.bforest.proofs.Sets.{yields-last-key}
use Rattle.bforest_trees.proofs.Readers.{progress-back}
use Rattle.bforest_trees.specs.Range.{left_in}
use Rattle.bforest.proofs.set_range.SetRangeDoubleEndedIterator.next_back.Goals as goal
use Rattle.std.proofs.Common.{sym}

pub returns-clause-steps : goal.returns-clause-steps
returns-clause-steps g c =
    let i = c.self.inside in
    rw (sym c.self.view_is, c.key_of.ensures) (yields-last-key (left_in i.trees.now i.root i.ends) (left_in i.trees.now i.root c.range_next_back.new.ends) c.range_next_back.result c.range_next_back.ensures.steps)

pub returns-clause-goes : goal.returns-clause-goes
returns-clause-goes g c = progress-back c.requires c.args.self.now _ c.key_of.result (returns-clause-steps g c)
