use Rattle.bforest_workloads_bench.proofs.Keeping.{ordered-new}
use Rattle.bforest_workloads_bench.proofs.small_sets.SmallSets.new.Goals as goal

pub invariant_of-result : goal.invariant_of-result
invariant_of-result c = ordered-new c.new.result c.args.count c.in_ok-handles.field-0.items c.in_ok-handles.ensures
