use Rattle.bforest_indexed.proofs.Loaded.{load-live, loaded-read, loads-unordered, refused-load}
use Rattle.bforest_indexed.proofs.Sizes.{first-field}
use Rattle.bforest_indexed.proofs.maps.Maps.load.Goals as goal
use Rattle.std.proofs.Common.{refl}

pub returns-in-Some : goal.returns-in-Some
returns-in-Some g c = rw (← c.self.view_is) (loads-unordered c.self.invariant c.args.entries.now (g.met.C.Comparator.total c.self.inside.order) c.in-Some.ensures.some)

pub clear-requires : goal.clear-requires
clear-requires g c = (search first-field, rw c.replace-before.ensures.value (load-live c.self.invariant c.args.entries.now (c.in_default.ensures.none refl) (rw (← c.self.view_is, ← c.index.ensures.number) at c.requires.within) c.index_mut.ensures.value c.in-Ok.ensures))

pub invariant_of-self : goal.invariant_of-self
invariant_of-self g c = rw c.replace-before.ensures.after ((loaded-read c.self.invariant c.args.entries.now (c.in_default.ensures.none refl) (rw (← c.self.view_is, ← c.index.ensures.number) at c.requires.within) c.index_mut.ensures.value c.in-Ok.ensures (rw c.replace-before.ensures.value at c.clear.ensures)).0)

pub returns-in-Ok : goal.returns-in-Ok
returns-in-Ok g c = rw (← c.self.view_is, ← c.index.ensures.number, c.replace-before.ensures.after) ((loaded-read c.self.invariant c.args.entries.now (c.in_default.ensures.none refl) (rw (← c.self.view_is, ← c.index.ensures.number) at c.requires.within) c.index_mut.ensures.value c.in-Ok.ensures (rw c.replace-before.ensures.value at c.clear.ensures)).1)

pub returns-in-Err : goal.returns-in-Err
returns-in-Err g c = rw (← c.self.view_is) (refused-load c.self.invariant c.args.entries.now (c.in_default.ensures.none refl) c.in-Err.ensures)
