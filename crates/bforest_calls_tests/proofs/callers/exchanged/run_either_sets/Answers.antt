use Rattle.bforest_calls_tests.proofs.Aliases.{run-aliases}
use Rattle.bforest_calls_tests.proofs.callers.exchanged.run_either_sets.Goals as goal
use Rattle.std.proofs.Common.{false, map}
use Rattle.std.proofs.lemmas.Result.{IfOk-weaker}

pub returns : goal.returns
returns g c = record {
  exchanged = IfOk-weaker c.run_set.result _ _ (λ answers run i j aliases. run-aliases 15 false (map g.C.Comparator.order c.args.comps.now) (record { forest = c.args.forest.now; handles = c.args.handles.now })
      c.args.calls.now answers.items (record { forest = c.run_set.new.forest; handles = c.run_set.new.handles }) run i j aliases) c.run_set.ensures.run;
}
