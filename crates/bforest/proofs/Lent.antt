-- Lending the value of a key, as `bforest_trees` proves it.
use Rattle.bforest_trees.proofs.values.Lent as lent
use Rattle.bforest_trees.specs.Forest.{Forest, list_of}
use Rattle.bforest.specs.Written.{with_value_for}
use Rattle.bforest_nodes.specs.Entries.{value_for}
use Rattle.std.proofs.Common.{None, Option, ◌≡◌, ℕ}
use Rattle.std.specs.declared.cmp.Ordering.{Ordering}

-- where a key has no value, nothing is written
pub with-value-nowhere : {K X : Type 0} (cmp : K → K → Ordering) (f : Forest K X) (h : Option ℕ) (k : K) → None ≡ value_for cmp (list_of f h) k → (w : X) → with_value_for cmp f h k w ≡ f
with-value-nowhere cmp f h k none w = lent.with-value-nowhere cmp f h k none w
