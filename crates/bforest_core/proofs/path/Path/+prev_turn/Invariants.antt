use Rattle.bforest_core.proofs.Words.{◌-◌}
use Rattle.bforest_core.proofs.path.Path.+prev_turn.Given as goal

abbrev pub decreases-prev_turn : goal.decreases-prev_turn
decreases-prev_turn g l = l.self.now.size - l.level
