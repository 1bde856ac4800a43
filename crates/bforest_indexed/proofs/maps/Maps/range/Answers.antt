use Rattle.bforest_indexed.proofs.Sizes.{first-field}
use Rattle.bforest_indexed.proofs.maps.Maps.range.Goals as goal

pub range-requires : goal.range-requires
range-requires g c = (search first-field, rw (← c.self.view_is) at c.map.ensures.searchable)

pub returns : goal.returns
returns g c = rw (← c.self.view_is, ← (rw (← c.self.view_is) at c.map.ensures.handle)) (record { entries = c.range.ensures.entries; fits = c.range.ensures.fits })
