use Rattle.bforest.proofs.map.Map.last.Goals as goal

pub returns : goal.returns
returns g c = record { entry = rw (← c.forest.view_is, ← c.self.view_is) c.last_entry.ensures.entry }
