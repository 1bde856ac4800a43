use Rattle.bforest.proofs.Cursors.{looks-in, reads-at}
use Rattle.bforest.proofs.map_cursor.MapCursor.goto_end.Goals as goal

pub invariant_of-self : goal.invariant_of-self
invariant_of-self g c = looks-in c.self.invariant (c.end-self-inside.ensures.look c.self.inside.trees.now c.self.inside.root)

pub returns : goal.returns
returns g c = record { moves = rw (← c.self.view_is) (reads-at (c.end-self-inside.ensures.look c.self.inside.trees.now c.self.inside.root)) }
