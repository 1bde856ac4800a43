use Rattle.bforest_workloads_bench.proofs.Keeping.{ordered-tried}
use Rattle.bforest_workloads_bench.proofs.smalls.Smalls.insert.Goals as goal
use Rattle.bforest.specs.Entries.{put}
use Rattle.bforest.specs.Forest.{list_of}
use Rattle.std.specs.Ordering.{nat_cmp}

pub invariant_of-self : goal.invariant_of-self
invariant_of-self c =
    ordered-tried c.self.inside.forest c.insert.new.forest c.self.inside.maps.items c.args.index c.in-Some.map.now c.insert.new.self (put nat_cmp (list_of c.self.inside.forest c.in-Some.map.now) c.args.key c.args.value) c.insert.result c.self.invariant c.in-Some.ensures.item.3.0 c.in-Some.ensures.item.1 c.insert.ensures.put c.insert.ensures.refused_forest c.insert.ensures.refused_handle c.insert.ensures.increasing
