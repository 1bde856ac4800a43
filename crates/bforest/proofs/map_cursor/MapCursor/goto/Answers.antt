use Rattle.bforest.proofs.Cursors.{looks-in, reads-at}
use Rattle.bforest.proofs.map_cursor.MapCursor.goto.Goals as goal

pub invariant_of-self : goal.invariant_of-self
invariant_of-self g c = looks-in c.self.invariant c.goto.ensures.look

pub returns : goal.returns
returns g c = rw (← c.self.view_is) (record { value = c.goto.ensures.value; moves = reads-at c.goto.ensures.look })
