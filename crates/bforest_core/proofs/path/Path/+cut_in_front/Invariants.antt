use Rattle.bforest_core.proofs.path.Path.+cut_in_front.Given as goal

abbrev pub decreases-cut_in_front : goal.decreases-cut_in_front
decreases-cut_in_front g l = l.level
