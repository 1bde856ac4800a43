use Rattle.bforest_core.proofs.Words.{◌-◌}
use Rattle.bforest_core.proofs.path.Path.+remove_emptied.Given as goal

abbrev pub decreases-remove_emptied : goal.decreases-remove_emptied
decreases-remove_emptied g l = l.self.now.size - l.up
