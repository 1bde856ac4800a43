use Rattle.bforest.proofs.map.Map.get_or_greater.Goals as goal

pub returns : goal.returns
returns g c = record { entry = rw (← c.self.view_is, ← c.forest.view_is) c.get_or_greater.ensures.entry }
