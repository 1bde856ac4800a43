use Rattle.bforest.proofs.set.Set.clear.Goals as goal

pub returns : goal.returns
returns g c = rw (← c.self.view_is, ← c.forest.view_is) c.free_tree.ensures
