use Rattle.bforest_core.proofs.Words.{IsTurn, toward, ◌-◌}
use Rattle.bforest_core.proofs.spot.far.Given as goal

abbrev pub invariant-loop-here : goal.invariant-loop-here
invariant-loop-here g l = IsTurn l.pool.nodes l.fn.root l.fn.code l.height (toward l.fn.on) 0 l.here l.node

abbrev pub decreases-loop-here : goal.decreases-loop-here
decreases-loop-here g l = l.height - l.here.height
