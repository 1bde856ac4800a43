use Rattle.bforest_core.proofs.Words.{◌-◌}
use Rattle.bforest_core.proofs.path.Path.+update_separator.Given as goal

abbrev pub decreases-update_separator : goal.decreases-update_separator
decreases-update_separator g l = l.self.now.size - l.up
