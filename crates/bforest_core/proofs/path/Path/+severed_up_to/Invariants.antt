use Rattle.bforest_core.proofs.path.Path.+severed_up_to.Given as goal

abbrev pub decreases-severed_up_to : goal.decreases-severed_up_to
decreases-severed_up_to g l = l.level
