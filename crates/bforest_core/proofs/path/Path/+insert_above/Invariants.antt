use Rattle.bforest_core.proofs.Words.{◌-◌}
use Rattle.bforest_core.proofs.path.Path.+insert_above.Given as goal

abbrev pub decreases-insert_above : goal.decreases-insert_above
decreases-insert_above g l = l.self.now.size - l.up
