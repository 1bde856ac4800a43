use Rattle.bforest_indexed.proofs.Sizes.{first-field}
use Rattle.bforest_indexed.proofs.maps.Maps.get.Goals as goal

pub get-requires : goal.get-requires
get-requires g c = (search first-field, rw (← c.self.view_is) at c.map.ensures.searchable)

pub returns : goal.returns
returns g c = rw (← c.self.view_is, ← (rw (← c.self.view_is) at c.map.ensures.handle)) (record { value = c.get.ensures.value })
