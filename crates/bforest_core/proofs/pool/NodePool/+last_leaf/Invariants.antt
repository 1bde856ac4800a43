use Rattle.bforest_core.proofs.Words.{◌-◌}
use Rattle.bforest_core.proofs.pool.NodePool.+last_leaf.Given as goal

abbrev pub decreases-last_leaf : goal.decreases-last_leaf
decreases-last_leaf g l = 17 - l.depth
