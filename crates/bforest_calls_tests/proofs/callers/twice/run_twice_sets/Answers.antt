use Rattle.bforest_calls_tests.proofs.Determined.{runs-determined}
use Rattle.bforest_calls_tests.proofs.callers.twice.run_twice_sets.Goals as goal
use Rattle.std.proofs.Common.{false, refl, map}

pub returns : goal.returns
returns g c = record {
  determined = runs-determined 15 refl false (map g.C.Comparator.order c.args.comps.now) c.args.calls.now
      (record { forest = c.args.forest.now; handles = c.args.handles.now }) c.in_ok-first.first.items (record { forest = c.run_set.new.forest; handles = c.run_set.new.handles })
      (record { forest = c.args.other.now; handles = c.args.others.now }) c.in_ok-second.second.items _ c.in_ok-first.ensures.run c.in_ok-second.ensures.run;
}
