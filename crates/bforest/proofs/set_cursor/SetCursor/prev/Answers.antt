use Rattle.bforest.proofs.SetCursors.{key-before, moves-on}
use Rattle.bforest.proofs.set_cursor.SetCursor.prev.Goals as goal
use Rattle.bforest.specs.SetCursor.{entries}
use Rattle.std.proofs.Common.{refl}

pub returns : goal.returns
returns g c = let at = rw (← c.forest.view_is, ← c.set.view_is) at c.requires.valid.stands in record {
  key = key-before (entries c.args.self.now) _ c.key_of.ensures
      (rw (← c.forest.view_is, ← c.set.view_is) (c.prev.ensures.value (record { place = _; spot = at })));
  moves = moves-on refl refl refl refl refl c.requires.valid
      (rw (← c.forest.view_is, ← c.set.view_is) (c.prev.ensures.spot (record { place = _; spot = at }), c.prev.ensures.computed));
}
