use Rattle.std.proofs.Common.{sym}
use Rattle.bforest_trees.proofs.Readers.{progress}
use Rattle.bforest.proofs.map_iter.MapIterIterator.next.Goals as goal

pub returns-clause-steps : goal.returns-clause-steps
returns-clause-steps g c = rw (sym c.self.view_is) c.next.ensures.steps

pub returns-clause-goes : goal.returns-clause-goes
returns-clause-goes g c = progress c.requires c.args.self.now _ c.next.result (returns-clause-steps g c)
