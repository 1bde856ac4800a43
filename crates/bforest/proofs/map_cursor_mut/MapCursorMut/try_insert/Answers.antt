use Rattle.bforest.proofs.Cursors.{goes-on, inserts-ordered}
use Rattle.bforest.proofs.map_cursor_mut.MapCursorMut.try_insert.Goals as goal
use Rattle.std.proofs.Common.{refl}

pub returns-clause-inserted : goal.returns-clause-inserted
returns-clause-inserted g c = rw (← c.forest.view_is, ← c.map.view_is) c.insert.ensures.inserted

pub returns-clause-goes : goal.returns-clause-goes
returns-clause-goes g c = goes-on refl refl refl (inserts-ordered c.requires.valid.live (returns-clause-inserted g c))
    (rw (← c.forest.view_is, ← c.map.view_is) (c.insert.ensures.spot, c.insert.ensures.computed))
