use Rattle.bforest_workloads_bench.proofs.Keeping.{ordered-cleared}
use Rattle.bforest_workloads_bench.proofs.small_sets.SmallSetsCollections.clear.Goals as goal

pub invariant_of-self : goal.invariant_of-self
invariant_of-self c =
    ordered-cleared c.self.inside.forest c.clear.new.forest c.self.inside.sets.items c.args.index c.in-Some.set.now c.clear.new.self c.self.invariant c.in-Some.ensures.item.3.0 c.in-Some.ensures.item.1 c.clear.ensures.cleared c.clear.ensures.handle
