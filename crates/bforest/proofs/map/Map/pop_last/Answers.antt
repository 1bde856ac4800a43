use Rattle.bforest.proofs.map.Map.pop_last.Goals as goal

pub returns : goal.returns
returns g c = rw (← c.self.view_is, ← c.forest.view_is) c.pop_last.ensures
