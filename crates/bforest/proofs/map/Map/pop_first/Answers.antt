use Rattle.bforest.proofs.map.Map.pop_first.Goals as goal

pub returns : goal.returns
returns g c = rw (← c.self.view_is, ← c.forest.view_is) c.pop_first.ensures
