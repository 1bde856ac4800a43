use Rattle.bforest.proofs.map_cursor_mut.MapCursorMut.entry.Goals as goal
use Rattle.bforest_trees.proofs.Stepping.{spot-within}

pub returns : goal.returns
returns g c = let at = rw (← c.forest.view_is, ← c.map.view_is) at c.requires.valid.stands in record {
  entry = rw (← c.forest.view_is, ← c.map.view_is) (c.entry.ensures.value (record { place = _; spot = at }));
  within = spot-within _ _ _ _ c.requires.valid.stands;
}
