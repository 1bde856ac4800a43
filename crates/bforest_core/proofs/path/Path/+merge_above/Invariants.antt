use Rattle.bforest_core.proofs.Words.{◌-◌}
use Rattle.bforest_core.proofs.path.Path.+merge_above.Given as goal

abbrev pub decreases-merge_above : goal.decreases-merge_above
decreases-merge_above g l = l.self.now.size - l.up
