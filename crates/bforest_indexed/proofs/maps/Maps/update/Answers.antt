use Rattle.bforest_indexed.proofs.Kept.{called-read, updated-at, ordered-read}
use Rattle.bforest_indexed.proofs.Sizes.{first-field}
use Rattle.bforest_indexed.proofs.maps.Maps.update.Goals as goal

pub update-requires : goal.update-requires
update-requires g c = (search first-field, (ordered-read c.self.invariant (rw (← c.self.view_is, ← c.index.ensures.number) at c.requires.within) c.index_mut.ensures.value, called-read c.self.invariant (rw (← c.self.view_is, ← c.index.ensures.number) at c.requires.within) c.index_mut.ensures.value _ _ (rw (← c.self.view_is, ← c.index.ensures.number) at c.requires.callable)))

pub invariant_of-self : goal.invariant_of-self
invariant_of-self g c = (updated-at c.self.invariant (rw (← c.self.view_is, ← c.index.ensures.number) at c.requires.within) c.index_mut.ensures.value c.update.ensures).0

pub returns : goal.returns
returns g c = rw (← c.self.view_is, ← c.index.ensures.number) ((updated-at c.self.invariant (rw (← c.self.view_is, ← c.index.ensures.number) at c.requires.within) c.index_mut.ensures.value c.update.ensures).1)
