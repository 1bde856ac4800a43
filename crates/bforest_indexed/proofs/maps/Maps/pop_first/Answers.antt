use Rattle.bforest_indexed.proofs.Kept.{live-read, popped-at}
use Rattle.bforest_indexed.proofs.Sizes.{first-field}
use Rattle.bforest_indexed.proofs.maps.Maps.pop_first.Goals as goal

pub pop_first-requires : goal.pop_first-requires
pop_first-requires g c = (search first-field, live-read c.self.invariant (rw (← c.self.view_is, ← c.index.ensures.number) at c.requires.within) c.index_mut.ensures.value)

pub invariant_of-self : goal.invariant_of-self
invariant_of-self g c = (popped-at c.self.invariant (rw (← c.self.view_is, ← c.index.ensures.number) at c.requires.within) c.index_mut.ensures.value c.pop_first.ensures).0

pub returns : goal.returns
returns g c = rw (← c.self.view_is, ← c.index.ensures.number) ((popped-at c.self.invariant (rw (← c.self.view_is, ← c.index.ensures.number) at c.requires.within) c.index_mut.ensures.value c.pop_first.ensures).1)
