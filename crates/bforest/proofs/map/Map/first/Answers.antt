use Rattle.bforest.proofs.map.Map.first.Goals as goal

pub returns : goal.returns
returns g c = record { entry = rw (← c.forest.view_is, ← c.self.view_is) c.first_entry.ensures.entry }
