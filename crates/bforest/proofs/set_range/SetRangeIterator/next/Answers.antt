use Rattle.bforest.proofs.Sets.{yields-key}
use Rattle.bforest_trees.proofs.Readers.{progress}
use Rattle.bforest_trees.specs.Range.{left_in}
use Rattle.bforest.proofs.set_range.SetRangeIterator.next.Goals as goal
use Rattle.std.proofs.Common.{sym}

pub returns-clause-steps : goal.returns-clause-steps
returns-clause-steps g c =
    let i = c.self.inside in
    rw (sym c.self.view_is, c.key_of.ensures) (yields-key (left_in i.trees.now i.root i.ends) (left_in i.trees.now i.root c.range_next.new.ends) c.range_next.result c.range_next.ensures.steps)

pub returns-clause-goes : goal.returns-clause-goes
returns-clause-goes g c = progress c.requires c.args.self.now _ c.key_of.result (returns-clause-steps g c)
