use Rattle.bforest_core.proofs.Words.{◌-◌}
use Rattle.bforest_core.proofs.union.Needs.{Planning}
use Rattle.bforest_core.proofs.build.plan_for.Given as goal

abbrev pub invariant-loop-room : goal.invariant-loop-room
invariant-loop-room l = Planning l.capacity l.entries l.nodes l.level l.room

abbrev pub decreases-loop-room : goal.decreases-loop-room
decreases-loop-room l = l.entries - l.room
