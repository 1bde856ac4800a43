use Rattle.bforest_core.proofs.Words.{◌-◌}
use Rattle.bforest_core.proofs.path.Path.+update_next_separator.Given as goal

abbrev pub decreases-update_next_separator : goal.decreases-update_next_separator
decreases-update_next_separator g l = l.self.now.size - l.up
