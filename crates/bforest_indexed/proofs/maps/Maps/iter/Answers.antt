use Rattle.bforest_indexed.proofs.Sizes.{first-field}
use Rattle.bforest_indexed.proofs.maps.Maps.iter.Goals as goal

pub iter-requires : goal.iter-requires
iter-requires g c = (search first-field, (rw (← c.self.view_is) at c.map.ensures.searchable).live)

pub returns : goal.returns
returns g c = rw (← c.self.view_is, ← (rw (← c.self.view_is) at c.map.ensures.handle)) (record { entries = c.iter.ensures.entries; fits = c.iter.ensures.fits })
