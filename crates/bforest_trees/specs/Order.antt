-- Where entries do not increase.
use Rattle.bforest_nodes.specs.Entries.{IsIncreasing}
use Rattle.std.specs.Prelude.{List, take, suc, ℕ}
use Rattle.std.specs.declared.cmp.Ordering.{Ordering}

-- the entries up to a place increase, and with the next one they do not
pub record IsUnorderedAt {K X : Type 0} (cmp : K → K → Ordering) (es : List (K × X)) (place : ℕ) : Type 0 where
  pub before : IsIncreasing cmp (take (suc place) es)
  pub here : ¬ IsIncreasing cmp (take (suc (suc place)) es)
