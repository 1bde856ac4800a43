use Rattle.bforest_indexed.proofs.Kept.{kept-all}
use Rattle.bforest_indexed.proofs.sets.Sets.reserve_nodes.Goals as goal
use Rattle.std.proofs.Common.{refl}

pub invariant_of-self : goal.invariant_of-self
invariant_of-self g c = (kept-all _ _ c.reserve_nodes.ensures c.self.invariant).0

pub returns : goal.returns
returns g c = let kept = kept-all _ _ c.reserve_nodes.ensures c.self.invariant in
    rw (← c.self.view_is) (record { reserves = c.reserve_nodes.ensures; keeps = kept.1; count = refl; memory = refl })
