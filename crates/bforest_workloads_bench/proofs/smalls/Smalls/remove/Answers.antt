use Rattle.bforest_workloads_bench.proofs.Keeping.{ordered-call}
use Rattle.bforest_workloads_bench.proofs.smalls.Smalls.remove.Goals as goal
use Rattle.bforest.specs.Entries.{cut}
use Rattle.bforest.specs.Forest.{list_of}
use Rattle.std.specs.Ordering.{nat_cmp}

pub invariant_of-self-2 : goal.invariant_of-self-2
invariant_of-self-2 c =
    ordered-call c.self.inside.forest c.remove.new.forest c.self.inside.maps.items c.args.index c.in_ok-map.map.now c.remove.new.self (cut nat_cmp (list_of c.self.inside.forest c.in_ok-map.map.now) c.args.key) c.self.invariant c.in_ok-map.ensures.item.3.0 c.in_ok-map.ensures.item.1 c.remove.ensures.cut c.remove.ensures.increasing
