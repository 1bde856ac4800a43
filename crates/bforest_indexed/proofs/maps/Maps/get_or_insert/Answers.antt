use Rattle.bforest_indexed.proofs.Kept.{got-at, ordered-read}
use Rattle.bforest_indexed.proofs.Sizes.{first-field}
use Rattle.bforest_indexed.proofs.maps.Maps.get_or_insert.Goals as goal

pub get_or_insert-requires : goal.get_or_insert-requires
get_or_insert-requires g c = (search first-field, ordered-read c.self.invariant (rw (← c.self.view_is, ← c.index.ensures.number) at c.requires.within) c.index_mut.ensures.value)

pub invariant_of-self : goal.invariant_of-self
invariant_of-self g c = (got-at c.self.invariant (rw (← c.self.view_is, ← c.index.ensures.number) at c.requires.within) c.index_mut.ensures.value c.get_or_insert.ensures).0

pub returns : goal.returns
returns g c = rw (← c.self.view_is, ← c.index.ensures.number) ((got-at c.self.invariant (rw (← c.self.view_is, ← c.index.ensures.number) at c.requires.within) c.index_mut.ensures.value c.get_or_insert.ensures).1)
