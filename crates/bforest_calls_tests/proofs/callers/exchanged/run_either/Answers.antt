use Rattle.bforest_calls_tests.proofs.Aliases.{run-aliases}
use Rattle.bforest_calls_tests.proofs.callers.exchanged.run_either.Goals as goal
use Rattle.std.proofs.Common.{true, map}
use Rattle.std.proofs.lemmas.Result.{IfOk-weaker}

pub returns : goal.returns
returns g c = record {
  exchanged = IfOk-weaker c.run_map.result _ _ (λ answers run i j aliases. run-aliases 7 true (map g.C.Comparator.order c.args.comps.now) (record { forest = c.args.forest.now; handles = c.args.handles.now })
      c.args.calls.now answers.items (record { forest = c.run_map.new.forest; handles = c.run_map.new.handles }) run i j aliases) c.run_map.ensures.run;
}
