use Rattle.bforest_indexed.proofs.Sizes.{first-field}
use Rattle.bforest_indexed.proofs.sets.Sets.symmetric_difference.Goals as goal

pub symmetric_difference-requires : goal.symmetric_difference-requires
symmetric_difference-requires g c = (search first-field, (rw (← c.self.view_is) at c.set-set.ensures.searchable, rw (← c.self.view_is) at c.set-other.ensures.searchable))

pub returns : goal.returns
returns g c = rw (← c.self.view_is, ← (rw (← c.self.view_is) at c.set-set.ensures.handle), ← (rw (← c.self.view_is) at c.set-other.ensures.handle)) (record { keys = c.symmetric_difference.ensures.keys; increasing = c.symmetric_difference.ensures.increasing; fits = c.symmetric_difference.ensures.fits })
