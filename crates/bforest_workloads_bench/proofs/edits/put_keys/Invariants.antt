use Rattle.bforest_workloads_bench.proofs.edits.put_keys.Given as goal
use Rattle.bforest_workloads_bench.specs.Cursors.{SetContinues}

abbrev pub invariant-loop-key : goal.invariant-loop-key
invariant-loop-key g l = SetContinues g.C.Comparator.order l.fn.cursor l.cursor
