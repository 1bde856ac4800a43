use Rattle.bforest_trees.proofs.After.{handed-on}
use Rattle.bforest.proofs.map.Map.deep_clone.Goals as goal

pub returns : goal.returns
returns g c = rw (← c.self.view_is, ← c.forest.view_is) c.in_ok-copy.ensures

pub returns-in_err-copy : goal.returns-in_err-copy
returns-in_err-copy g c = rw (handed-on c.from_residual.ensures.1, ← c.self.view_is, ← c.forest.view_is) c.in_err-copy.ensures
