use Rattle.bforest_trees.proofs.Reserving.{reserves}
use Rattle.bforest_trees.proofs.trees.Trees.reserve.Goals as goal

pub returns : goal.returns
returns g c = rw (← c.self.view_is) (reserves c.self.inside.pool c.reserve.new.self c.args.n c.reserve.result (c.reserve.ensures.trees c.self.invariant).1 c.reserve.ensures.ok c.reserve.ensures.growth c.reserve.ensures.err c.reserve.ensures.full c.reserve.ensures.memory c.reserve.ensures.enough)

pub invariant_of-self : goal.invariant_of-self
invariant_of-self g c = (c.reserve.ensures.trees c.self.invariant).0
