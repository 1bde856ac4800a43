use Rattle.bforest_indexed.proofs.Kept.{ordered-read}
use Rattle.bforest_indexed.proofs.Sizes.{first-field}
use Rattle.bforest_indexed.proofs.Unions.{keeps-at}
use Rattle.bforest_indexed.proofs.maps.Maps.intersect_with.Goals as goal
use Rattle.std.proofs.Common.{◌∙◌}

pub intersect_with-requires : goal.intersect_with-requires
intersect_with-requires g c = (search first-field, (ordered-read c.self.invariant (rw (← c.self.view_is, ← c.index.ensures.number) at c.requires.within) c.index_mut.ensures.value, rw c.clone-theirs.ensures.same (rw (← c.self.view_is) at c.map.ensures.searchable)))

pub invariant_of-self : goal.invariant_of-self
invariant_of-self g c = (keeps-at _ c.self.invariant (rw (← c.self.view_is, ← c.index.ensures.number) at c.requires.within) c.index_mut.ensures.value (c.clone-theirs.ensures.same ∙ (rw (← c.self.view_is) at c.map.ensures.handle)) c.intersect_with.ensures).0

pub returns : goal.returns
returns g c = rw (← c.self.view_is, ← c.index.ensures.number) ((keeps-at _ c.self.invariant (rw (← c.self.view_is, ← c.index.ensures.number) at c.requires.within) c.index_mut.ensures.value (c.clone-theirs.ensures.same ∙ (rw (← c.self.view_is) at c.map.ensures.handle)) c.intersect_with.ensures).1)
