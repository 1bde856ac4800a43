use Rattle.bforest.proofs.forest.Forest.free_slots.Goals as goal

pub returns : goal.returns
returns g c = rw (← c.self.view_is) c.free.ensures
