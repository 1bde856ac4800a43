use Rattle.bforest_indexed.proofs.Sizes.{first-field}
use Rattle.bforest_indexed.proofs.sets.Sets.difference.Goals as goal

pub difference-requires : goal.difference-requires
difference-requires g c = (search first-field, (rw (← c.self.view_is) at c.set-set.ensures.searchable, rw (← c.self.view_is) at c.set-other.ensures.searchable))

pub returns : goal.returns
returns g c = rw (← c.self.view_is, ← (rw (← c.self.view_is) at c.set-set.ensures.handle), ← (rw (← c.self.view_is) at c.set-other.ensures.handle)) (record { keys = c.difference.ensures.keys; increasing = c.difference.ensures.increasing; fits = c.difference.ensures.fits })
