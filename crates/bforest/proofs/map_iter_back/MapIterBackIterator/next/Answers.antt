use Rattle.std.proofs.Common.{sym}
use Rattle.bforest_trees.proofs.Looking.{back-goes, back-steps}
use Rattle.bforest_trees.proofs.Readers.{progress}
use Rattle.bforest.proofs.map_iter_back.MapIterBackIterator.next.Goals as goal

pub invariant_of-self : goal.invariant_of-self
invariant_of-self g c = back-goes c.self.invariant c.prev.ensures.look

pub returns-clause-steps : goal.returns-clause-steps
returns-clause-steps g c = rw (sym c.self.view_is) (back-steps c.self.invariant c.prev.result c.prev.ensures.value c.prev.ensures.look)

pub returns-clause-goes : goal.returns-clause-goes
returns-clause-goes g c = progress c.requires c.args.self.now _ c.prev.result (returns-clause-steps g c)
