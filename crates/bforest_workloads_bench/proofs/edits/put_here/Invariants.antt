use Rattle.bforest_workloads_bench.proofs.edits.put_here.Given as goal
use Rattle.bforest_workloads_bench.specs.Cursors.{MapContinues}

abbrev pub invariant-loop-entry : goal.invariant-loop-entry
invariant-loop-entry g l = MapContinues g.C.Comparator.order l.fn.cursor l.cursor
