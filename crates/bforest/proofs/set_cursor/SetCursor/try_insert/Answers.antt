use Rattle.bforest.proofs.Cursors.{inserts-ordered}
use Rattle.bforest.proofs.SetCursors.{goes-on}
use Rattle.bforest.proofs.set_cursor.SetCursor.try_insert.Goals as goal
use Rattle.std.proofs.Common.{refl}

pub returns-clause-inserted : goal.returns-clause-inserted
returns-clause-inserted g c = rw c.is_new.ensures (rw (← c.forest.view_is, ← c.set.view_is) c.insert-put.ensures.inserted)

pub returns-clause-goes : goal.returns-clause-goes
returns-clause-goes g c = goes-on refl refl refl (inserts-ordered c.requires.valid.live (returns-clause-inserted g c))
    (rw (← c.forest.view_is, ← c.set.view_is) (c.insert-put.ensures.spot, c.insert-put.ensures.computed))
