use Rattle.bforest_trees.proofs.reader.Reader.next.Goals as goal

pub returns-clause-steps : goal.returns-clause-steps
returns-clause-steps g c = rw (← c.trees.view_is) c.take_next.ensures.steps
