use Rattle.bforest_core.proofs.path.Path.+cut_below.Given as goal

abbrev pub decreases-cut_below : goal.decreases-cut_below
decreases-cut_below g l = l.level
