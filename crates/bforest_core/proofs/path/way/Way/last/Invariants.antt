use Rattle.bforest_core.proofs.{Words.{IsLast, false, ◌-◌}, walks.CodesDown.NearSaid, walks.Ways.{Leading}}
use Rattle.bforest_core.proofs.path.way.Way.last.Given as goal

abbrev pub invariant-loop-index : goal.invariant-loop-index
invariant-loop-index g l = Leading g.row.N l.pool.nodes IsLast (NearSaid false) l.fn.root l.way

abbrev pub decreases-loop-index : goal.decreases-loop-index
decreases-loop-index g l = 17 - l.way.height
