use Rattle.bforest.proofs.SetCursors.{key-read, moves-on}
use Rattle.bforest.proofs.set_cursor.SetCursor.goto_first.Goals as goal
use Rattle.bforest.specs.SetCursor.{entries}
use Rattle.std.proofs.Common.{refl}

pub returns-clause-key : goal.returns-clause-key
returns-clause-key g c = key-read (entries c.args.self.now) _ c.key_of.ensures (rw (← c.forest.view_is, ← c.set.view_is) c.first.ensures.value)

pub returns-clause-moves : goal.returns-clause-moves
returns-clause-moves g c = moves-on refl refl refl refl refl c.requires.valid
    (rw (← c.forest.view_is, ← c.set.view_is) (c.first.ensures.spot, c.first.ensures.computed))
