use Rattle.bforest_workloads_bench.proofs.Keeping.{none-more}
use Rattle.bforest_workloads_bench.proofs.small_sets.handles.Goals as goal
use Rattle.std.proofs.Common.{◌∙◌}

pub loop-preserved : goal.loop-preserved
loop-preserved c =
    c.in_ok-push.ensures.items ∙ none-more c.loop.counter c.loop.sets.items c.new.result c.loop.invariant c.new.ensures.empty
