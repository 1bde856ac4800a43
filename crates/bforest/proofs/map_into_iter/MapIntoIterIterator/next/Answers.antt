use Rattle.bforest_trees.proofs.Readers.{progress}
use Rattle.bforest.proofs.map_into_iter.MapIntoIterIterator.next.Goals as goal

pub returns-clause-steps : goal.returns-clause-steps
returns-clause-steps g c = rw (← c.self.view_is, ← c.self-inside.view_is) c.take_next.ensures.steps

pub returns-clause-goes : goal.returns-clause-goes
returns-clause-goes g c = progress tt c.args.self.now _ c.take_next.result (returns-clause-steps g c)
