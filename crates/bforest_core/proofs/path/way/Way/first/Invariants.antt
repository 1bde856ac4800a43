use Rattle.bforest_core.proofs.{Words.{IsFirst, true, ◌-◌}, walks.CodesDown.NearSaid, walks.Ways.{Leading}}
use Rattle.bforest_core.proofs.path.way.Way.first.Given as goal

abbrev pub invariant-loop-first : goal.invariant-loop-first
invariant-loop-first g l = Leading g.row.N l.pool.nodes IsFirst (NearSaid true) l.fn.root l.way

abbrev pub decreases-loop-first : goal.decreases-loop-first
decreases-loop-first g l = 17 - l.way.height
