use Rattle.bforest_indexed.proofs.Kept.{called-read, either-at, ordered-read}
use Rattle.bforest_indexed.proofs.Sizes.{first-field}
use Rattle.bforest_indexed.proofs.maps.Maps.update_or_insert.Goals as goal

pub update_or_insert-requires : goal.update_or_insert-requires
update_or_insert-requires g c = (search first-field, (ordered-read c.self.invariant (rw (← c.self.view_is, ← c.index.ensures.number) at c.requires.within) c.index_mut.ensures.value, called-read c.self.invariant (rw (← c.self.view_is, ← c.index.ensures.number) at c.requires.within) c.index_mut.ensures.value _ _ (rw (← c.self.view_is, ← c.index.ensures.number) at c.requires.callable)))

pub invariant_of-self : goal.invariant_of-self
invariant_of-self g c = (either-at c.self.invariant (rw (← c.self.view_is, ← c.index.ensures.number) at c.requires.within) c.index_mut.ensures.value c.update_or_insert.ensures).0

pub returns : goal.returns
returns g c = rw (← c.self.view_is, ← c.index.ensures.number) ((either-at c.self.invariant (rw (← c.self.view_is, ← c.index.ensures.number) at c.requires.within) c.index_mut.ensures.value c.update_or_insert.ensures).1)
