use Rattle.bforest_indexed.proofs.Sizes.{first-field}
use Rattle.bforest_indexed.proofs.sets.Sets.is_subset.Goals as goal

pub is_subset-requires : goal.is_subset-requires
is_subset-requires g c = (search first-field, (rw (← c.self.view_is) at c.set-set.ensures.searchable, rw (← c.self.view_is) at c.set-other.ensures.searchable))

pub returns : goal.returns
returns g c = rw (← c.self.view_is, ← (rw (← c.self.view_is) at c.set-set.ensures.handle), ← (rw (← c.self.view_is) at c.set-other.ensures.handle)) (record { among = c.is_subset.ensures.among })
