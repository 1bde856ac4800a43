use Rattle.bforest_indexed.proofs.Kept.{ordered-read}
use Rattle.bforest_indexed.proofs.Splits.{split-live, split-read, split-refused}
use Rattle.bforest_indexed.proofs.Sizes.{first-field}
use Rattle.bforest_indexed.proofs.maps.Maps.split_off.Goals as goal

pub split_off-requires : goal.split_off-requires
split_off-requires g c = (search first-field, ordered-read c.self.invariant (rw (← c.self.view_is, ← c.index.ensures.number) at c.requires.from) c.index_mut.ensures.value)

pub invariant_of-self : goal.invariant_of-self
invariant_of-self g c = (split-refused c.self.invariant (rw (← c.self.view_is, ← c.index.ensures.number) at c.requires.from) c.index_mut.ensures.value (rw (← c.self.view_is) at c.requires.to) c.in_err-tail.ensures c.from_residual.ensures.1).0

pub returns-in_err-tail : goal.returns-in_err-tail
returns-in_err-tail g c = rw (← c.self.view_is, ← c.index.ensures.number) (split-refused c.self.invariant (rw (← c.self.view_is, ← c.index.ensures.number) at c.requires.from) c.index_mut.ensures.value (rw (← c.self.view_is) at c.requires.to) c.in_err-tail.ensures c.from_residual.ensures.1).1

pub clear-requires : goal.clear-requires
clear-requires g c = (search first-field, rw c.replace-before.ensures.value (split-live c.self.invariant (rw (← c.self.view_is, ← c.index.ensures.number) at c.requires.from) c.index_mut.ensures.value (rw (← c.self.view_is, ← c.index-2.ensures.number) at c.requires.to) c.in_ok-tail.ensures c.index_mut-2.ensures.value))

pub invariant_of-self-2 : goal.invariant_of-self-2
invariant_of-self-2 g c = rw c.replace-before.ensures.after ((split-read c.self.invariant (rw (← c.self.view_is, ← c.index.ensures.number) at c.requires.from) c.index_mut.ensures.value (rw (← c.self.view_is, ← c.index-2.ensures.number) at c.requires.to) c.in_ok-tail.ensures c.index_mut-2.ensures.value
    (rw c.replace-before.ensures.value at c.clear.ensures)).0)

pub returns : goal.returns
returns g c = rw (← c.self.view_is, ← c.index.ensures.number, ← c.index-2.ensures.number, c.replace-before.ensures.after) ((split-read c.self.invariant (rw (← c.self.view_is, ← c.index.ensures.number) at c.requires.from) c.index_mut.ensures.value (rw (← c.self.view_is, ← c.index-2.ensures.number) at c.requires.to) c.in_ok-tail.ensures c.index_mut-2.ensures.value
    (rw c.replace-before.ensures.value at c.clear.ensures)).1)
