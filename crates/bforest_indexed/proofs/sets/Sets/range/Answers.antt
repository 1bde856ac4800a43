use Rattle.bforest_indexed.proofs.Sizes.{first-field}
use Rattle.bforest_indexed.proofs.sets.Sets.range.Goals as goal

pub range-requires : goal.range-requires
range-requires g c = (search first-field, rw (← c.self.view_is) at c.set.ensures.searchable)

pub returns : goal.returns
returns g c = rw (← c.self.view_is, ← (rw (← c.self.view_is) at c.set.ensures.handle)) (record { keys = c.range.ensures.keys; fits = c.range.ensures.fits })
