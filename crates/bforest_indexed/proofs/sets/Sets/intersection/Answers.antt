use Rattle.bforest_indexed.proofs.Sizes.{first-field}
use Rattle.bforest_indexed.proofs.sets.Sets.intersection.Goals as goal

pub intersection-requires : goal.intersection-requires
intersection-requires g c = (search first-field, (rw (← c.self.view_is) at c.set-set.ensures.searchable, rw (← c.self.view_is) at c.set-other.ensures.searchable))

pub returns : goal.returns
returns g c = rw (← c.self.view_is, ← (rw (← c.self.view_is) at c.set-set.ensures.handle), ← (rw (← c.self.view_is) at c.set-other.ensures.handle)) (record { keys = c.intersection.ensures.keys; increasing = c.intersection.ensures.increasing; fits = c.intersection.ensures.fits })
