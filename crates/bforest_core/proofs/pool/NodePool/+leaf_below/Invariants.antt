use Rattle.bforest_core.proofs.Words.{◌-◌}
use Rattle.bforest_core.proofs.pool.NodePool.+leaf_below.Given as goal

abbrev pub decreases-leaf_below : goal.decreases-leaf_below
decreases-leaf_below g l = 17 - l.depth
