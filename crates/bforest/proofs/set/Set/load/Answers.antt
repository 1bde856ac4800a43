use Rattle.bforest_trees.proofs.After.{handed-on}
use Rattle.bforest.proofs.set.Set.load.Goals as goal

pub returns : goal.returns
returns g c = rw (← c.forest.view_is) c.in_ok-tree.ensures

pub returns-in_err-tree : goal.returns-in_err-tree
returns-in_err-tree g c = rw (handed-on c.from_residual.ensures.1, ← c.forest.view_is) c.in_err-tree.ensures
