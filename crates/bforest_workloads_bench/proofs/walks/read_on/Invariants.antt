use Rattle.bforest_workloads_bench.proofs.walks.read_on.Given as goal
use Rattle.std.proofs.Common.{length, ◌-◌}

-- the number of entries left, with the one here
abbrev pub decreases-loop-entry : goal.decreases-loop-entry
decreases-loop-entry l = length l.cursor.entries - l.cursor.spot
