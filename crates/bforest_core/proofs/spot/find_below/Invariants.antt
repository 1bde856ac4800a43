use Rattle.bforest_core.proofs.{Words.{BeginsWith, ◌-◌}, walks.Searches.GoesOn}
use Rattle.bforest_core.proofs.spot.find_below.Given as goal

abbrev pub invariant-loop-key : goal.invariant-loop-key
invariant-loop-key g l =
    GoesOn (g.C.Comparator.order l.comp) g.row.N l.pool.nodes l.key l.fn.spot l.fn.node l.here l.lower × BeginsWith l.fn.spot l.here

abbrev pub decreases-loop-key : goal.decreases-loop-key
decreases-loop-key g l = 17 - l.here.height
