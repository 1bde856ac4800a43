use Rattle.bforest.proofs.map_cursor_mut.MapCursorMut.insert.Goals as goal

pub returns : goal.returns
returns g c = c.try_insert.ensures
