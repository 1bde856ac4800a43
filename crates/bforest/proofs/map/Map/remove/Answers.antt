use Rattle.bforest.proofs.map.Map.remove.Goals as goal

pub returns : goal.returns
returns g c = rw (← c.self.view_is, ← c.forest.view_is) c.remove.ensures
