use Rattle.bforest.proofs.set_cursor.SetCursor.insert.Goals as goal

pub returns : goal.returns
returns g c = c.try_insert.ensures
