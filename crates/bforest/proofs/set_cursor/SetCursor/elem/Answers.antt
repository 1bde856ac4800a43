use Rattle.bforest.proofs.SetCursors.{key-read, keys-count}
use Rattle.bforest.proofs.set_cursor.SetCursor.elem.Goals as goal
use Rattle.bforest.specs.SetCursor.{entries}
use Rattle.bforest_trees.proofs.Stepping.{spot-within}

pub returns : goal.returns
returns g c = let at = rw (← c.forest.view_is, ← c.set.view_is) at c.requires.valid.stands in record {
  key = key-read (entries c.args.self.now) _ c.key_of.ensures
      (rw (← c.forest.view_is, ← c.set.view_is) (c.entry.ensures.value (record { place = _; spot = at })));
  within = rw (keys-count _) (spot-within _ _ _ _ c.requires.valid.stands);
}
