use Rattle.bforest_indexed.proofs.Sizes.{first-field}
use Rattle.bforest_indexed.proofs.sets.Sets.is_disjoint.Goals as goal

pub is_disjoint-requires : goal.is_disjoint-requires
is_disjoint-requires g c = (search first-field, (rw (← c.self.view_is) at c.set-set.ensures.searchable, rw (← c.self.view_is) at c.set-other.ensures.searchable))

pub returns : goal.returns
returns g c = rw (← c.self.view_is, ← (rw (← c.self.view_is) at c.set-set.ensures.handle), ← (rw (← c.self.view_is) at c.set-other.ensures.handle)) (record { apart = c.is_disjoint.ensures.apart })
