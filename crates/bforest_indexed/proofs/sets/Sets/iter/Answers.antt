use Rattle.bforest_indexed.proofs.Sizes.{first-field}
use Rattle.bforest_indexed.proofs.sets.Sets.iter.Goals as goal

pub iter-requires : goal.iter-requires
iter-requires g c = (search first-field, (rw (← c.self.view_is) at c.set.ensures.searchable).live)

pub returns : goal.returns
returns g c = rw (← c.self.view_is, ← (rw (← c.self.view_is) at c.set.ensures.handle)) (record { keys = c.iter.ensures.keys; fits = c.iter.ensures.fits })
