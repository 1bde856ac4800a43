use Rattle.bforest_indexed.proofs.Kept.{ordered-read}
use Rattle.bforest_indexed.proofs.Sizes.{first-field}
use Rattle.bforest_indexed.proofs.Unions.{united-at}
use Rattle.bforest_indexed.proofs.sets.Sets.union_with.Goals as goal
use Rattle.std.proofs.Common.{◌∙◌}

pub union_with-requires : goal.union_with-requires
union_with-requires g c = (search first-field, (ordered-read c.self.invariant (rw (← c.self.view_is, ← c.index.ensures.number) at c.requires.within) c.index_mut.ensures.value, rw c.clone-theirs.ensures.same (rw (← c.self.view_is) at c.set.ensures.searchable)))

pub invariant_of-self : goal.invariant_of-self
invariant_of-self g c = (united-at _ c.self.invariant (rw (← c.self.view_is, ← c.index.ensures.number) at c.requires.within) c.index_mut.ensures.value (c.clone-theirs.ensures.same ∙ (rw (← c.self.view_is) at c.set.ensures.handle)) c.union_with.ensures).0

pub returns : goal.returns
returns g c = rw (← c.self.view_is, ← c.index.ensures.number) ((united-at _ c.self.invariant (rw (← c.self.view_is, ← c.index.ensures.number) at c.requires.within) c.index_mut.ensures.value (c.clone-theirs.ensures.same ∙ (rw (← c.self.view_is) at c.set.ensures.handle)) c.union_with.ensures).1)
