use Rattle.bforest_core.proofs.Words.{◌-◌}
use Rattle.bforest_core.proofs.path.Path.+right_sibling.Given as goal

abbrev pub decreases-right_sibling : goal.decreases-right_sibling
decreases-right_sibling g l = l.self.now.size - l.up
