use Rattle.bforest_indexed.proofs.Kept.{asked-read, filtered-at, live-read}
use Rattle.bforest_indexed.proofs.Sizes.{first-field}
use Rattle.bforest_indexed.proofs.maps.Maps.retain.Goals as goal

pub retain-requires : goal.retain-requires
retain-requires g c = (search first-field, (live-read c.self.invariant (rw (← c.self.view_is, ← c.index.ensures.number) at c.requires.within) c.index_mut.ensures.value, asked-read c.self.invariant (rw (← c.self.view_is, ← c.index.ensures.number) at c.requires.within) c.index_mut.ensures.value (rw (← c.self.view_is, ← c.index.ensures.number) at c.requires.callable)))

pub invariant_of-self : goal.invariant_of-self
invariant_of-self g c = (filtered-at c.self.invariant (rw (← c.self.view_is, ← c.index.ensures.number) at c.requires.within) c.index_mut.ensures.value c.retain.ensures).0

pub returns : goal.returns
returns g c = rw (← c.self.view_is, ← c.index.ensures.number) ((filtered-at c.self.invariant (rw (← c.self.view_is, ← c.index.ensures.number) at c.requires.within) c.index_mut.ensures.value c.retain.ensures).1)
