use Rattle.bforest.proofs.set.Set.retain.Goals as goal

pub returns : goal.returns
returns g c = rw (← c.self.view_is, ← c.forest.view_is) c.retain.ensures
