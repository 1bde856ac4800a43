use Rattle.bforest_workloads_bench.proofs.edits.take_keys.Given as goal
use Rattle.bforest_workloads_bench.specs.Cursors.{SetContinues}

abbrev pub invariant-loop : goal.invariant-loop
invariant-loop g l = SetContinues g.C.Comparator.order l.fn.cursor l.cursor
