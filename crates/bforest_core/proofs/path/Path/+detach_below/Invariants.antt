use Rattle.bforest_core.proofs.path.Path.+detach_below.Given as goal

abbrev pub decreases-detach_below : goal.decreases-detach_below
decreases-detach_below g l = l.level
