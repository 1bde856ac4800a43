use Rattle.bforest.proofs.Cursors.{removes-gone, removes-ordered, removes-others}
use Rattle.bforest.proofs.SetCursors.{goes-on, key-holds, key-read}
use Rattle.bforest.proofs.set_cursor.SetCursor.remove.Goals as goal
use Rattle.bforest.specs.SetCursor.{entries}
use Rattle.std.proofs.Common.{refl}

pub returns-clause-key : goal.returns-clause-key
returns-clause-key g c = let at = rw (← c.forest.view_is, ← c.set.view_is) at c.requires.valid.stands in
    key-read (entries c.args.self.now) _ c.key_of.ensures
    (rw (← c.forest.view_is, ← c.set.view_is) (c.take.ensures.value (record { place = _; spot = at })))

pub returns-clause-removed : goal.returns-clause-removed
returns-clause-removed g c = let at = rw (← c.forest.view_is, ← c.set.view_is) at c.requires.valid.stands in
    rw (← c.forest.view_is, ← c.set.view_is) (c.take.ensures.removed (record { place = _; spot = at }))

pub returns-clause-gone : goal.returns-clause-gone
returns-clause-gone g c =
    key-holds _ (entries c.args.self.now) _ (returns-clause-key g c)
    (removes-gone (g.met.C.Comparator.total c.args.self.now.comp.now) c.requires.valid.increasing (returns-clause-removed g c))

pub returns-clause-others : goal.returns-clause-others
returns-clause-others g c =
    key-holds _ (entries c.args.self.now) _ (returns-clause-key g c)
    (removes-others (g.met.C.Comparator.total c.args.self.now.comp.now) c.requires.valid.increasing (returns-clause-removed g c))

pub returns-clause-goes : goal.returns-clause-goes
returns-clause-goes g c = let at = rw (← c.forest.view_is, ← c.set.view_is) at c.requires.valid.stands in
    let up = rw (← c.forest.view_is, ← c.set.view_is) at c.requires.valid.increasing in
    goes-on refl refl refl (removes-ordered up (c.take.ensures.removed (record { place = _; spot = at })))
    (rw (← c.forest.view_is, ← c.set.view_is) (c.take.ensures.spot (record { place = _; spot = at }), c.take.ensures.computed))
