use Rattle.bforest.proofs.Cursors.{empty-live}
use Rattle.bforest.proofs.map_cursor.MapCursor.is_empty.Goals as goal

pub returns : goal.returns
returns g c =
    let i = c.self.inside in
    let e = empty-live i.trees.now i.root c.self.invariant.live in
    let none = c.is_none.ensures.none in
    record { empty = rw (← c.self.view_is) (λ is. e.0 (none.0 is), λ list. none.1 (e.1 list)) }
