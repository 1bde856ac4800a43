use Rattle.bforest_core.proofs.path.Path.+go_last.Given as goal

abbrev pub decreases-go_last : goal.decreases-go_last
decreases-go_last g l = l.from
