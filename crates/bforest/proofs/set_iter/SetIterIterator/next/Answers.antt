use Rattle.std.proofs.Common.{sym}
use Rattle.bforest.proofs.Sets.{yields-key}
use Rattle.bforest_trees.proofs.Readers.{progress}
use Rattle.bforest_trees.specs.Layout.{left_of}
use Rattle.bforest.proofs.set_iter.SetIterIterator.next.Goals as goal

pub returns-clause-steps : goal.returns-clause-steps
returns-clause-steps g c =
    let trees = c.self.inside.trees.now in
    rw (sym c.self.view_is, c.key_of.ensures) (yields-key (left_of trees c.self.inside.reader) (left_of trees c.next.new.self) c.next.result c.next.ensures.steps)

pub returns-clause-goes : goal.returns-clause-goes
returns-clause-goes g c = progress c.requires c.args.self.now _ c.key_of.result (returns-clause-steps g c)
