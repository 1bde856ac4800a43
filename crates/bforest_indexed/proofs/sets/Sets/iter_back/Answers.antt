use Rattle.bforest_indexed.proofs.Sizes.{first-field}
use Rattle.bforest_indexed.proofs.sets.Sets.iter_back.Goals as goal

pub iter_back-requires : goal.iter_back-requires
iter_back-requires g c = (search first-field, (rw (← c.self.view_is) at c.set.ensures.searchable).live)

pub returns : goal.returns
returns g c = rw (← c.self.view_is, ← (rw (← c.self.view_is) at c.set.ensures.handle)) (record { keys = c.iter_back.ensures.keys; fits = c.iter_back.ensures.fits })
