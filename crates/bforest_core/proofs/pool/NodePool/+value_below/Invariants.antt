use Rattle.bforest_core.proofs.Words.{◌-◌}
use Rattle.bforest_core.proofs.pool.NodePool.+value_below.Given as goal

abbrev pub decreases-value_below : goal.decreases-value_below
decreases-value_below g l = 17 - l.depth
