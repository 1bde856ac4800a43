use Rattle.bforest_indexed.proofs.Sizes.{first-field}
use Rattle.bforest_indexed.proofs.sets.Sets.get_or_greater.Goals as goal

pub get_or_greater-requires : goal.get_or_greater-requires
get_or_greater-requires g c = (search first-field, rw (← c.self.view_is) at c.set.ensures.searchable)

pub returns : goal.returns
returns g c = rw (← c.self.view_is, ← (rw (← c.self.view_is) at c.set.ensures.handle)) (record { key = c.get_or_greater.ensures.key })
