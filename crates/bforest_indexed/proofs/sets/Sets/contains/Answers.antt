use Rattle.bforest_indexed.proofs.Sizes.{first-field}
use Rattle.bforest_indexed.proofs.sets.Sets.contains.Goals as goal

pub contains-requires : goal.contains-requires
contains-requires g c = (search first-field, rw (← c.self.view_is) at c.set.ensures.searchable)

pub returns : goal.returns
returns g c = rw (← c.self.view_is, ← (rw (← c.self.view_is) at c.set.ensures.handle)) (record { present = c.contains.ensures.present; value = c.contains.ensures.value })
