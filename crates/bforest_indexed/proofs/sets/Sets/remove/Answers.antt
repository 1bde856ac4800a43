use Rattle.bforest_indexed.proofs.Kept.{ordered-read, removed-at}
use Rattle.bforest_indexed.proofs.Sizes.{first-field}
use Rattle.bforest_indexed.proofs.sets.Sets.remove.Goals as goal

pub remove-requires : goal.remove-requires
remove-requires g c = (search first-field, ordered-read c.self.invariant (rw (← c.self.view_is, ← c.index.ensures.number) at c.requires.within) c.index_mut.ensures.value)

pub invariant_of-self : goal.invariant_of-self
invariant_of-self g c = (removed-at c.self.invariant (rw (← c.self.view_is, ← c.index.ensures.number) at c.requires.within) c.index_mut.ensures.value c.remove.ensures).0

pub returns : goal.returns
returns g c = rw (← c.self.view_is, ← c.index.ensures.number) ((removed-at c.self.invariant (rw (← c.self.view_is, ← c.index.ensures.number) at c.requires.within) c.index_mut.ensures.value c.remove.ensures).1)
