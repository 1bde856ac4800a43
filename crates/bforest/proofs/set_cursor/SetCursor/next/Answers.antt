use Rattle.bforest.proofs.SetCursors.{key-read, keys-count, moves-on}
use Rattle.bforest.proofs.set_cursor.SetCursor.next.Goals as goal
use Rattle.bforest.specs.SetCursor.{entries}
use Rattle.std.proofs.Common.{refl}

pub returns : goal.returns
returns g c = let at = rw (← c.forest.view_is, ← c.set.view_is) at c.requires.valid.stands in record {
  key = key-read (entries c.args.self.now) _ c.key_of.ensures
      (rw (← c.forest.view_is, ← c.set.view_is) (c.next.ensures.value (record { place = _; spot = at })));
  moves = moves-on refl refl refl refl refl c.requires.valid
      (rw (keys-count _) (rw (← c.forest.view_is, ← c.set.view_is) (c.next.ensures.spot (record { place = _; spot = at }), c.next.ensures.computed)));
}
