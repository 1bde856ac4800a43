use Rattle.bforest_indexed.proofs.Kept.{kept-swapped, swaps}
use Rattle.bforest_indexed.proofs.maps.Maps.swap.Goals as goal
use Rattle.std.proofs.Common.{ap, length, ◌∙◌}
use Rattle.std.proofs.lemmas.List.Edits.{length-swap}

pub invariant_of-self : goal.invariant_of-self
invariant_of-self g c = kept-swapped _ _ _ _ c.swap.ensures.by_index (rw (← c.self.view_is, ← c.index.ensures.number) at c.requires.first) (rw (← c.self.view_is, ← c.index-2.ensures.number) at c.requires.second) c.swap.ensures.items c.self.invariant

pub returns : goal.returns
returns g c = rw (← c.self.view_is, ← c.index.ensures.number, ← c.index-2.ensures.number) (swaps _ _ _ _ c.swap.ensures.by_index (ap length c.swap.ensures.items ∙ length-swap _ _ _) c.swap.ensures.capacity)
