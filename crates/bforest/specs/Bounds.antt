-- Bounds of keys, as `bforest_trees` defines them.
use Rattle.std.specs.List.{filter}
use Rattle.std.specs.Ordering.{is_gt}
use Rattle.std.specs.Prelude.{List, not, ◌&&◌}
use Rattle.std.specs.declared.cmp.Ordering.{Ordering}
pub use Rattle.bforest_trees.specs.Bounds.{entries_between, entries_outside, entry_at_least, entry_at_most, is_between, is_from_start, is_past_end, start_place}

-- the entries without those whose keys are behind `first`, up to `last`
abbrev pub without_between : {K X : Type 0} → (K → K → Ordering) → K → K → List (K × X) → List (K × X)
without_between cmp first last es = filter (λ x. not (is_gt (cmp x.0 first) && not (is_gt (cmp x.0 last)))) es
