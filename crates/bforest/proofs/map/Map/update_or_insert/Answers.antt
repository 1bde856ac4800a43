use Rattle.bforest.proofs.map.Map.update_or_insert.Goals as goal

pub returns : goal.returns
returns g c = rw (← c.self.view_is, ← c.forest.view_is) c.update_or_insert.ensures
