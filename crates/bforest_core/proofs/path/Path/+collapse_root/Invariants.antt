use Rattle.bforest_core.proofs.path.Path.+collapse_root.Given as goal

abbrev pub decreases-collapse_root : goal.decreases-collapse_root
decreases-collapse_root g l = l.self.now.size
