-- What a load of the list of one index leaves.
use Rattle.bforest.specs.Calls.{ArePacked, IsUnorderedAt, fewest}
use Rattle.bforest.specs.Entries.{IsIncreasing}
use Rattle.bforest.specs.Forest.{IsFitFor, IsTooMany, NeedsGrowth, free_of}
use Rattle.bforest.specs.Refusal.{Full, Memory}
use Rattle.bforest.specs.Room.{node_count}
use Rattle.bforest_indexed.specs.Indexed.{ChangesAt, HasRoom, Indexed, IsShortOf, MayHave, TakesAndGives, entries, node_sizes, table}
use Rattle.bforest_indexed.specs.declared.load_error.LoadError.TheVariants.{Refused, Unordered}
use Rattle.bforest_indexed.specs.declared.load_error.LoadError.{LoadError}
use Rattle.std.specs.Prelude.{Err, IsOk, List, OnErr, OnOk, Result, length, ℕ, ◌↔◌, ◌≡◌, ◌≢◌, ◌≤◌}
use Rattle.std.specs.declared.cmp.Ordering.{Ordering}

-- i got the list es, in nodes that are packed, and its own ended; or the keys do not increase, or too few nodes are available, and nothing
-- changed. A leaf has at most `most` entries
pub record LoadsAt {K X C : Type 0} (most : ℕ) (cmp : K → K → Ordering) (m : Indexed K X C) (i : ℕ) (es : List (K × X)) (result : Result (Unit {0}) LoadError) (m' : Indexed K X C) : Type 0 where
  pub loaded : OnOk result (entries m' i ≡ es)
  pub increasing : OnOk result (IsIncreasing cmp es)
  pub packed : OnOk result (ArePacked most (node_sizes m' i))
  pub nodes : OnOk result (node_count (node_sizes m' i) ≡ fewest most (length es))
  pub least : (sizes : List (List ℕ)) → IsFitFor most (length es) sizes → fewest most (length es) ≤ node_count sizes
  pub beside : ChangesAt m i m'
  pub account : OnOk result (TakesAndGives (fewest most (length es)) (node_sizes m i) (table m) (table m'))
  pub place : (place : ℕ) → result ≡ Err (Unordered place) → IsUnorderedAt cmp es place
  pub unordered : ¬ IsIncreasing cmp es → (place : ℕ) × (result ≡ Err (Unordered place))
  pub full : (result ≡ Err (Refused Full)) ↔ (IsIncreasing cmp es × IsTooMany (fewest most (length es)) (table m))
  pub memory : result ≡ Err (Refused Memory) → NeedsGrowth (fewest most (length es)) (table m)
  pub succeeds : IsIncreasing cmp es → fewest most (length es) ≤ free_of (table m) → IsOk result
  pub refused : OnErr result (m' ≡ m)
  pub room : (lists most_entries : ℕ) → IsShortOf lists most_entries m → length es ≤ most_entries → IsIncreasing cmp es → HasRoom most lists most_entries (table m) → IsOk result
  pub never_full : (lists most_entries : ℕ) → IsShortOf lists most_entries m → length es ≤ most_entries → MayHave most lists most_entries (table m) → result ≢ Err (Refused Full)
