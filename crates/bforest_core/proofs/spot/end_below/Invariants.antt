use Rattle.bforest_core.proofs.{Words.{IsNearest, ◌-◌}, walks.CodesDown.{GoesDown, NearSaid}}
use Rattle.bforest_core.proofs.spot.end_below.Given as goal

abbrev pub invariant-loop-index : goal.invariant-loop-index
invariant-loop-index g l = GoesDown g.row.N l.pool.nodes (IsNearest l.fn.on) (NearSaid l.fn.on) l.fn.spot l.fn.node l.here l.lower

abbrev pub decreases-loop-index : goal.decreases-loop-index
decreases-loop-index g l = 17 - l.here.height
