use Rattle.bforest_workloads_bench.proofs.small_sets.handles.Given as goal
use Rattle.std.proofs.Common.{None, replicate, ◌≡◌}

abbrev pub invariant-loop : goal.invariant-loop
invariant-loop l = l.sets.items ≡ replicate l.counter None
