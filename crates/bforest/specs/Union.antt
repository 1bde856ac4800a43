-- The keys of two lists compared, the union of two lists, what one keeps of the other, and what both do not share.
use Rattle.bforest_trees.specs.Union.{kept_from, united}
use Rattle.std.specs.Prelude.{List, false}
use Rattle.std.specs.declared.cmp.Ordering.{Ordering}
pub use Rattle.bforest_trees.specs.Union.{are_among, are_apart, fits, kept_from, kept_of, keeps_all, new_to, united}

-- the entries of two lists whose keys are in one of them alone
abbrev pub unshared : {K X : Type 0} → (K → K → Ordering) → List (K × X) → List (K × X) → List (K × X)
unshared cmp es others = united cmp (kept_from cmp false es others) (kept_from cmp false others es)
