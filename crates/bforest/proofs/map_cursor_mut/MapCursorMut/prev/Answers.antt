use Rattle.bforest.proofs.Cursors.{moves-on}
use Rattle.bforest.proofs.map_cursor_mut.MapCursorMut.prev.Goals as goal
use Rattle.std.proofs.Common.{refl}

pub returns : goal.returns
returns g c = let at = rw (← c.forest.view_is, ← c.map.view_is) at c.requires.valid.stands in record {
  value = rw (← c.forest.view_is, ← c.map.view_is) (c.prev.ensures.value (record { place = _; spot = at }));
  moves = moves-on refl refl refl refl refl c.requires.valid
      (rw (← c.forest.view_is, ← c.map.view_is) (c.prev.ensures.spot (record { place = _; spot = at }), c.prev.ensures.computed));
}
