use Rattle.bforest_workloads_bench.proofs.smalls.handles.Given as goal
use Rattle.std.proofs.Common.{None, replicate, ◌≡◌}

abbrev pub invariant-loop : goal.invariant-loop
invariant-loop l = l.maps.items ≡ replicate l.counter None
