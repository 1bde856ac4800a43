use Rattle.bforest_indexed.proofs.Adding.{tells-none}
use Rattle.bforest_indexed.proofs.maps.Maps.is_empty.Goals as goal

pub returns : goal.returns
returns g c = record { none = rw (← c.self.view_is) (tells-none _ _ _ c.self.inside.maps.ok.0 c.is_empty.ensures) }
