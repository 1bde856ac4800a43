use Rattle.bforest_indexed.proofs.Sizes.{first-field}
use Rattle.bforest_indexed.proofs.sets.Sets.first.Goals as goal

pub first-requires : goal.first-requires
first-requires g c = (search first-field, (rw (← c.self.view_is) at c.set.ensures.searchable).live)

pub returns : goal.returns
returns g c = rw (← c.self.view_is, ← (rw (← c.self.view_is) at c.set.ensures.handle)) (record { key = c.first.ensures.key })
