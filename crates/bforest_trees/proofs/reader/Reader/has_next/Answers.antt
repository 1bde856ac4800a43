use Rattle.bforest_trees.proofs.reader.Reader.has_next.Goals as goal

pub returns-clause-entered : goal.returns-clause-entered
returns-clause-entered g c = rw (← c.trees.view_is) c.goes_on.ensures.entered

pub returns-clause-none : goal.returns-clause-none
returns-clause-none g c = rw (← c.trees.view_is) c.goes_on.ensures.none
