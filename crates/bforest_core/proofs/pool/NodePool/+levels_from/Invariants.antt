use Rattle.bforest_core.proofs.Words.{◌-◌}
use Rattle.bforest_core.proofs.pool.NodePool.+levels_from.Given as goal

abbrev pub decreases-levels_from : goal.decreases-levels_from
decreases-levels_from g l = 17 - l.depth
