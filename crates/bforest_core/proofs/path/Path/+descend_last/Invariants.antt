use Rattle.bforest_core.proofs.path.Path.+descend_last.Given as goal

abbrev pub decreases-descend_last : goal.decreases-descend_last
decreases-descend_last g l = l.level
