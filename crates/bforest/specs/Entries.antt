-- An ordered map as the list of its entries, as `bforest_nodes` and `bforest_core` define it.
use Rattle.bforest_nodes.specs.Entries.{put}
use Rattle.std.specs.Prelude.{List, [], ◌∷◌}
use Rattle.std.specs.declared.cmp.Ordering.{Ordering}
pub use Rattle.bforest_nodes.specs.Entries.{IsIncreasing, cut, entry_for, is_present, place, put, search_for, value_at_place, value_for, with_value}
pub use Rattle.bforest_core.specs.Place.{entry_before}

-- the entries after insertions, one after the other
abbrev pub put_all : {K X : Type 0} → (K → K → Ordering) → List (K × X) → List (K × X) → List (K × X)
put_all cmp es [] = es
put_all cmp es (x ∷ xs) = put_all cmp (put cmp es x.0 x.1) xs
