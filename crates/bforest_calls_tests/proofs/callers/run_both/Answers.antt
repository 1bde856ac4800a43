use Rattle.bforest_calls_tests.proofs.Joined.{run-joined}
use Rattle.bforest_calls_tests.proofs.callers.run_both.Goals as goal
use Rattle.std.proofs.Common.{true, map}

pub returns : goal.returns
returns g c = record {
  joined = run-joined 7 true (map g.C.Comparator.order c.args.comps.now) (record { forest = c.args.forest.now; handles = c.args.handles.now }) c.args.first.now c.in_ok-before.before.items
      (record { forest = c.run_map.new.forest; handles = c.run_map.new.handles }) c.args.second.now c.in_ok-after.after.items _ c.in_ok-before.ensures.run c.in_ok-after.ensures.run;
}
