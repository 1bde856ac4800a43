use Rattle.bforest.proofs.set.Set.len.Goals as goal

pub returns : goal.returns
returns g c = record { count = rw (← c.forest.view_is, ← c.self.view_is) c.len.ensures.count }
