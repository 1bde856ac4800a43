use Rattle.bforest_core.proofs.path.Path.+go_first.Given as goal

abbrev pub decreases-go_first : goal.decreases-go_first
decreases-go_first g l = l.from
