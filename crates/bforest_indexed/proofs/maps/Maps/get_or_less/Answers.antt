use Rattle.bforest_indexed.proofs.Sizes.{first-field}
use Rattle.bforest_indexed.proofs.maps.Maps.get_or_less.Goals as goal

pub get_or_less-requires : goal.get_or_less-requires
get_or_less-requires g c = (search first-field, rw (← c.self.view_is) at c.map.ensures.searchable)

pub returns : goal.returns
returns g c = rw (← c.self.view_is, ← (rw (← c.self.view_is) at c.map.ensures.handle)) (record { entry = c.get_or_less.ensures.entry })
