use Rattle.bforest_core.proofs.path.Path.+descend.Given as goal

abbrev pub decreases-descend : goal.decreases-descend
decreases-descend g l = l.level
