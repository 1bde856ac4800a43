use Rattle.bforest_indexed.proofs.sets.Sets.node_limit.Goals as goal

pub returns : goal.returns
returns g c = record { limit = rw (← c.self.view_is) c.node_limit.ensures.limit }
