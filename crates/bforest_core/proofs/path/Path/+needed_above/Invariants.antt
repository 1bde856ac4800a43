use Rattle.bforest_core.proofs.Words.{◌-◌}
use Rattle.bforest_core.proofs.path.Path.+needed_above.Given as goal

abbrev pub decreases-needed_above : goal.decreases-needed_above
decreases-needed_above g l = l.self.now.size - l.up
