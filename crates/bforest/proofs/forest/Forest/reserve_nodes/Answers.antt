use Rattle.bforest.proofs.forest.Forest.reserve_nodes.Goals as goal

pub returns : goal.returns
returns g c = rw (← c.self.view_is) c.reserve.ensures
