use Rattle.bforest.proofs.set.Set.try_insert.Goals as goal

pub returns : goal.returns
returns g c = rw (← c.self.view_is, ← c.forest.view_is, c.is_new.ensures) c.put-put.ensures
