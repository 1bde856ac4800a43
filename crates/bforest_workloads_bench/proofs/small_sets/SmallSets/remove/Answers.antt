use Rattle.bforest_workloads_bench.proofs.Keeping.{ordered-call}
use Rattle.bforest_workloads_bench.proofs.small_sets.SmallSets.remove.Goals as goal
use Rattle.bforest.specs.Entries.{cut}
use Rattle.bforest.specs.Forest.{list_of}
use Rattle.std.specs.Ordering.{nat_cmp}

pub invariant_of-self : goal.invariant_of-self
invariant_of-self c =
    ordered-call c.self.inside.forest c.remove.new.forest c.self.inside.sets.items c.args.index c.in-Some.set.now c.remove.new.self (cut nat_cmp (list_of c.self.inside.forest c.in-Some.set.now) c.args.key) c.self.invariant c.in-Some.ensures.item.3.0 c.in-Some.ensures.item.1 c.remove.ensures.cut c.remove.ensures.increasing
