use Rattle.bforest_trees.proofs.trees.Trees.free.Goals as goal

pub returns : goal.returns
returns g c = record { count = rw (← c.self.view_is) c.free.ensures.value }
