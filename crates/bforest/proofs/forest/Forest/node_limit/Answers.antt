use Rattle.bforest.proofs.forest.Forest.node_limit.Goals as goal

pub returns : goal.returns
returns g c = rw (← c.self.view_is) c.limit.ensures
