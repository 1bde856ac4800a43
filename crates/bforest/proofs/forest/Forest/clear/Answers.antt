use Rattle.bforest.proofs.forest.Forest.clear.Goals as goal

pub returns-clause-empty : goal.returns-clause-empty
returns-clause-empty g c = rw (← c.self.view_is) c.clear.ensures.empty

pub returns-clause-lists : goal.returns-clause-lists
returns-clause-lists g c = c.clear.ensures.lists
