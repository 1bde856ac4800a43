use Rattle.bforest.specs.Cursor.{at_place}
use Rattle.bforest_tests.proofs.callers.loops.goto_end_by_steps.Given as goal
use Rattle.std.proofs.Common.{length, ◌-◌, ◌≡◌}

-- the cursor moved, and nothing else changed
abbrev pub invariant-loop-cursor : goal.invariant-loop-cursor
invariant-loop-cursor g l = l.cursor ≡ at_place l.fn.cursor l.cursor.spot

-- the number of entries left, with the one here
abbrev pub decreases-loop-cursor : goal.decreases-loop-cursor
decreases-loop-cursor g l = length l.cursor.entries - l.cursor.spot
