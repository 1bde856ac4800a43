use Rattle.bforest_trees.proofs.look.Look.first.Goals as goal

pub returns-clause-value : goal.returns-clause-value
returns-clause-value g c = rw (← c.trees.view_is) c.enter_first.ensures.value
