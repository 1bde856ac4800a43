use Rattle.std.proofs.Common.{refl}
use Rattle.bforest_indexed.proofs.Kept.{cleared-all, kept-cleared}
use Rattle.bforest_indexed.proofs.maps.Maps.clear_all.Goals as goal

pub invariant_of-self : goal.invariant_of-self
invariant_of-self g c = kept-cleared refl _ _ _ c.self.inside.forest _ c.clear.ensures.empty c.empty_all.ensures.empty

pub returns : goal.returns
returns g c = rw (← c.self.view_is) (cleared-all _ _ _ c.clear.ensures.empty c.empty_all.ensures.empty c.empty_all.ensures.memory)
