use Rattle.bforest.proofs.Cursors.{look-at, looks-in, reads-at}
use Rattle.bforest.proofs.map_cursor.MapCursor.next.Goals as goal

pub invariant_of-self : goal.invariant_of-self
invariant_of-self g c = looks-in c.self.invariant (c.next.ensures.look (look-at c.self.invariant))

pub returns : goal.returns
returns g c = let at = look-at c.self.invariant in
    rw (← c.self.view_is) (record { value = c.next.ensures.value at; moves = reads-at (c.next.ensures.look at) })
