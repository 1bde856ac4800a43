use Rattle.bforest_indexed.proofs.Sizes.{first-field}
use Rattle.bforest_indexed.proofs.maps.Maps.iter_back.Goals as goal

pub iter_back-requires : goal.iter_back-requires
iter_back-requires g c = (search first-field, (rw (← c.self.view_is) at c.map.ensures.searchable).live)

pub returns : goal.returns
returns g c = rw (← c.self.view_is, ← (rw (← c.self.view_is) at c.map.ensures.handle)) (record { entries = c.iter_back.ensures.entries; fits = c.iter_back.ensures.fits })
