use Rattle.bforest_trees.proofs.After.{handed-on}
use Rattle.bforest_trees.proofs.Ensuring.{first-new}
use Rattle.bforest_trees.proofs.trees.Trees.plant.Goals as goal
use Rattle.std.proofs.Common.{refl}

pub returns-in_err-put_first : goal.returns-in_err-put_first
returns-in_err-put_first g c = let refused = handed-on c.from_residual.ensures.1 in record {
  inserted = λ order total. rw refused (c.in_err-put_first.ensures order total);
  value = rw refused tt;
}

pub returns : goal.returns
returns g c = record { inserted = λ order total. first-new (c.in_ok-put_first.ensures order total); value = refl }
