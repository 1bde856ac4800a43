use Rattle.bforest_calls_tests.proofs.Determined.{runs-determined}
use Rattle.bforest_calls_tests.proofs.callers.twice.run_twice.Goals as goal
use Rattle.std.proofs.Common.{refl, true, map}

pub returns : goal.returns
returns g c = record {
  determined = runs-determined 7 refl true (map g.C.Comparator.order c.args.comps.now) c.args.calls.now
      (record { forest = c.args.forest.now; handles = c.args.handles.now }) c.in_ok-first.first.items (record { forest = c.run_map.new.forest; handles = c.run_map.new.handles })
      (record { forest = c.args.other.now; handles = c.args.others.now }) c.in_ok-second.second.items _ c.in_ok-first.ensures.run c.in_ok-second.ensures.run;
}
