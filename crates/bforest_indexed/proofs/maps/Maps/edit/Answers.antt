use Rattle.bforest_indexed.proofs.Kept.{edited-at, ordered-read}
use Rattle.bforest_indexed.proofs.Sizes.{first-field}
use Rattle.bforest_indexed.proofs.maps.Maps.edit.Goals as goal

pub lend-requires : goal.lend-requires
lend-requires g c = (search first-field, ordered-read c.self.invariant (rw (← c.self.view_is, ← c.index.ensures.number) at c.requires.within) c.index_mut.ensures.value)

pub invariant_of-self : goal.invariant_of-self
invariant_of-self g c = (edited-at c.self.invariant (rw (← c.self.view_is, ← c.index.ensures.number) at c.requires.within) c.index_mut.ensures.value (g.E.Edit.leaves c.args.edit) c.lend.ensures.leaves c.lend.ensures.increasing c.lend.ensures.answer).0

pub returns : goal.returns
returns g c = rw (← c.self.view_is, ← c.index.ensures.number) ((edited-at c.self.invariant (rw (← c.self.view_is, ← c.index.ensures.number) at c.requires.within) c.index_mut.ensures.value (g.E.Edit.leaves c.args.edit) c.lend.ensures.leaves c.lend.ensures.increasing c.lend.ensures.answer).1)
