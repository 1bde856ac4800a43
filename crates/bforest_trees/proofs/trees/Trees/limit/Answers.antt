use Rattle.bforest_trees.proofs.trees.Trees.limit.Goals as goal

pub returns : goal.returns
returns g c = record { limit = rw (← c.self.view_is) c.limit.ensures.value }
