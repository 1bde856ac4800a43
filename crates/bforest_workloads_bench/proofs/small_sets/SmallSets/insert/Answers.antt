use Rattle.bforest_workloads_bench.proofs.Keeping.{ordered-tried}
use Rattle.bforest_workloads_bench.proofs.small_sets.SmallSets.insert.Goals as goal
use Rattle.bforest.specs.Entries.{put}
use Rattle.bforest.specs.Forest.{list_of}
use Rattle.bforest.specs.Set.{as_put, the_value}
use Rattle.std.specs.Ordering.{nat_cmp}

pub invariant_of-self : goal.invariant_of-self
invariant_of-self c =
    ordered-tried c.self.inside.forest c.insert.new.forest c.self.inside.sets.items c.args.index c.in-Some.set.now c.insert.new.self (put nat_cmp (list_of c.self.inside.forest c.in-Some.set.now) c.args.key the_value) (as_put c.insert.result) c.self.invariant c.in-Some.ensures.item.3.0 c.in-Some.ensures.item.1 c.insert.ensures.put c.insert.ensures.refused_forest c.insert.ensures.refused_handle c.insert.ensures.increasing
