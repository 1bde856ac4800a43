use Rattle.bforest.proofs.Cursors.{moves-on}
use Rattle.bforest.proofs.map_cursor_mut.MapCursorMut.goto.Goals as goal
use Rattle.std.proofs.Common.{refl}

pub returns-clause-moves : goal.returns-clause-moves
returns-clause-moves g c = moves-on refl refl refl refl refl c.requires.valid
    (rw (← c.forest.view_is, ← c.map.view_is) (c.goto.ensures.spot, c.goto.ensures.computed))
