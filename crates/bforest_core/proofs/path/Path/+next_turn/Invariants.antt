use Rattle.bforest_core.proofs.Words.{◌-◌}
use Rattle.bforest_core.proofs.path.Path.+next_turn.Given as goal

abbrev pub decreases-next_turn : goal.decreases-next_turn
decreases-next_turn g l = l.self.now.size - l.level
