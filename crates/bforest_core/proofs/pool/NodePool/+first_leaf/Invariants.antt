use Rattle.bforest_core.proofs.Words.{◌-◌}
use Rattle.bforest_core.proofs.pool.NodePool.+first_leaf.Given as goal

abbrev pub decreases-first_leaf : goal.decreases-first_leaf
decreases-first_leaf g l = 17 - l.depth
