use Rattle.bforest_trees.proofs.Increasing.{alone}
use Rattle.bforest.proofs.set.Set.new.Goals as goal
use Rattle.std.proofs.Common.{None}

pub returns-clause-increasing : goal.returns-clause-increasing
returns-clause-increasing g c = λ forest order. rw c.none.ensures.none (alone order None)
