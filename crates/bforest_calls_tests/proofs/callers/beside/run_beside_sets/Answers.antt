use Rattle.bforest_calls_tests.proofs.Sparing.{run-spares}
use Rattle.bforest_calls_tests.proofs.callers.beside.run_beside_sets.Goals as goal
use Rattle.std.proofs.Common.{false, map}

pub returns : goal.returns
returns g c = record {
  spared = λ m here all. run-spares 15 false (map g.C.Comparator.order c.args.comps.now) m (record { forest = c.args.forest.now; handles = c.args.handles.now })
      (record { forest = c.run_set.new.forest; handles = c.run_set.new.handles }) c.args.calls.now (λ answers. answers.items) c.run_set.result c.run_set.ensures.run c.run_set.ensures.err here all;
}
