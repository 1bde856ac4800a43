use Rattle.bforest_indexed.proofs.Copies.{copied-read, copies-not, old-live, refused-at}
use Rattle.bforest_indexed.proofs.Kept.{live-read}
use Rattle.bforest_indexed.proofs.Sizes.{first-field}
use Rattle.bforest_indexed.proofs.sets.Sets.copy.Goals as goal

pub returns-then-from-to : goal.returns-then-from-to
returns-then-from-to g c = rw (← c.index-from.ensures.number, ← c.index-to.ensures.number) (copies-not _ c.if-from-to.true)

pub deep_clone-requires : goal.deep_clone-requires
deep_clone-requires g c = (search first-field, live-read c.self.invariant (rw (← c.self.view_is, ← c.index-from.ensures.number) at c.requires.from) c.index.ensures)

pub returns-in_err-copy : goal.returns-in_err-copy
returns-in_err-copy g c = rw (← c.self.view_is, ← c.index-from.ensures.number, ← c.index-to.ensures.number) (refused-at c.self.invariant (rw (← c.self.view_is, ← c.index-from.ensures.number) at c.requires.from) c.if-from-to.false c.index.ensures c.in_err-copy.ensures c.from_residual.ensures.1)

pub clear-requires : goal.clear-requires
clear-requires g c = (
  search first-field,
  rw c.replace-old.ensures.value (old-live c.self.invariant (rw (← c.self.view_is, ← c.index-from.ensures.number) at c.requires.from) c.if-from-to.false c.index.ensures (rw (← c.self.view_is, ← c.index-to.ensures.number) at c.requires.to) c.index_mut.ensures.value c.in_ok-copy.ensures),
)

pub invariant_of-self-2 : goal.invariant_of-self-2
invariant_of-self-2 g c = rw c.replace-old.ensures.after ((copied-read c.self.invariant (rw (← c.self.view_is, ← c.index-from.ensures.number) at c.requires.from) c.if-from-to.false c.index.ensures (rw (← c.self.view_is, ← c.index-to.ensures.number) at c.requires.to) c.index_mut.ensures.value c.in_ok-copy.ensures
    (rw c.replace-old.ensures.value at c.clear.ensures)).0)

pub returns : goal.returns
returns g c = rw (← c.self.view_is, ← c.index-from.ensures.number, ← c.index-to.ensures.number, c.replace-old.ensures.after) ((copied-read c.self.invariant (rw (← c.self.view_is, ← c.index-from.ensures.number) at c.requires.from) c.if-from-to.false c.index.ensures (rw (← c.self.view_is, ← c.index-to.ensures.number) at c.requires.to) c.index_mut.ensures.value c.in_ok-copy.ensures
    (rw c.replace-old.ensures.value at c.clear.ensures)).1)
