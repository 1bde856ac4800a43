use Rattle.bforest_core.proofs.path.Path.+descend_first.Given as goal

abbrev pub decreases-descend_first : goal.decreases-descend_first
decreases-descend_first g l = l.level
