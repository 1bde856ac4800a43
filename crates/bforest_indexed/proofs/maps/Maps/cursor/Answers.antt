use Rattle.bforest_indexed.proofs.Sizes.{first-field}
use Rattle.bforest_indexed.proofs.maps.Maps.cursor.Goals as goal

pub cursor-requires : goal.cursor-requires
cursor-requires g c = (search first-field, rw (← c.self.view_is) at c.map.ensures.searchable)

pub returns : goal.returns
returns g c = rw (← c.self.view_is, ← (rw (← c.self.view_is) at c.map.ensures.handle)) (record { entries = c.cursor.ensures.entries; spot = c.cursor.ensures.spot; comparator = c.cursor.ensures.comparator; fits = c.cursor.ensures.fits })
