use Rattle.bforest_calls_tests.proofs.Counted.{adds-throughout}
use Rattle.bforest_calls_tests.proofs.callers.counted.run_counted.Goals as goal
use Rattle.std.proofs.Common.{true, map}

pub returns-clause-adds_up : goal.returns-clause-adds_up
returns-clause-adds_up g c = adds-throughout 7 true (map g.C.Comparator.order c.args.comps.now) (record { forest = c.args.forest.now; handles = c.args.handles.now }) c.args.calls.now
    c.in_ok-answers.answers.items (record { forest = c.run_map.new.forest; handles = c.run_map.new.handles })
    (record { slots = c.nodes_in_use-nodes.ensures.account; within = c.slots-slots.ensures.within; fit = c.nodes_in_use-nodes.ensures.fit }) c.in_ok-answers.ensures.run
