use Rattle.bforest_calls_tests.proofs.Sparing.{run-spares}
use Rattle.bforest_calls_tests.proofs.callers.beside.run_beside.Goals as goal
use Rattle.std.proofs.Common.{true, map}

pub returns : goal.returns
returns g c = record {
  spared = λ m here all. run-spares 7 true (map g.C.Comparator.order c.args.comps.now) m (record { forest = c.args.forest.now; handles = c.args.handles.now })
      (record { forest = c.run_map.new.forest; handles = c.run_map.new.handles }) c.args.calls.now (λ answers. answers.items) c.run_map.result c.run_map.ensures.run c.run_map.ensures.err here all;
}
