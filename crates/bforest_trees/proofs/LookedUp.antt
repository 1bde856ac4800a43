-- What look-ups find in a list after an insertion, after a removal of a key, and after that of the entry at a place.
use Rattle.bforest_nodes.proofs.AfterCut.{value_for-cut, value_for-cut_other}
use Rattle.bforest_nodes.proofs.Found.{cut-present}
use Rattle.bforest_nodes.proofs.Lookups.{value_for-put, value_for-put_other}
use Rattle.bforest_nodes.proofs.Ordered.{place-here, place-later}
use Rattle.bforest_nodes.specs.Entries.{IsIncreasing, cut, is_present, place, put, value_for}
use Rattle.std.proofs.Common.{List, None, Some, [], ap, false, if◌then◌else◌, remove, slice_get, suc, sym, true, zero, ◌∙◌, ◌∷◌, ◌≡◌, ℕ}
use Rattle.std.specs.Cmp.{IsTotalOrder, tied_itself}
use Rattle.std.specs.List.Sorted.{IsStrictlySortedBy}
use Rattle.std.specs.List.{AllByRecursion}
use Rattle.std.specs.Map.{keys_of}
use Rattle.std.specs.Option.{is_some, option_and_then}
use Rattle.std.specs.Ordering.{is_eq, is_lt}
use Rattle.std.specs.declared.cmp.Ordering.TheVariants.{Less}
use Rattle.std.specs.declared.cmp.Ordering.{Ordering}

module _ {K X : Type 0} {cmp : K → K → Ordering} (total : IsTotalOrder cmp) (es : List (K × X)) (up : IsIncreasing cmp es) (k : K) where
  module _ (x : X) {es' : List (K × X)} (is : es' ≡ put cmp es k x) where
    -- the key that was put in has its value
    pub found-put : value_for cmp es' k ≡ Some x
    found-put = rw is (value_for-put cmp total k x es up)

    -- all other keys have the values that they had
    pub others-put : (q : K) → is_eq (cmp k q) ≡ false → value_for cmp es' q ≡ value_for cmp es q
    others-put q apart = rw is (value_for-put_other cmp total k q x apart es up)

  module _ {es' : List (K × X)} (is : es' ≡ cut cmp es k) where
    -- the key that was cut out has no value
    pub gone-cut : value_for cmp es' k ≡ None
    gone-cut = rw is (value_for-cut cmp total es k up)

    -- all other keys have the values that they had
    pub others-cut : (q : K) → is_eq (cmp k q) ≡ false → value_for cmp es' q ≡ value_for cmp es q
    others-cut q apart = rw is (value_for-cut_other cmp total k q apart es up)

module _ {K X : Type 0} {cmp : K → K → Ordering} (total : IsTotalOrder cmp) where
  -- the first key is less than that of a later entry
  less-than : (k : K) (es : List (K × X)) (p : ℕ) (e : K × X) → AllByRecursion (λ y. cmp k y ≡ Less) (keys_of es) → slice_get es p ≡ Some e → cmp k e.0 ≡ Less
  less-than k [] p e all is = absurd cc
  less-than k (y ∷ es) zero e all is = let same : y ≡ e = cc in rw (← same) all.0
  less-than k (y ∷ es) (suc p) e all is = less-than k es p e all.1 is

  -- the place of the key of an entry is the entry's
  place-of : (es : List (K × X)) (p : ℕ) (e : K × X) → IsIncreasing cmp es → slice_get es p ≡ Some e → place cmp es e.0 ≡ p
  unfolding IsStrictlySortedBy
  place-of [] p e up is = absurd cc
  place-of (y ∷ es) zero e up is = let same : y ≡ e = cc in place-here cmp total y es e.0 up (rw (← same) (ap is_lt (tied_itself total y.0)))
  place-of (y ∷ es) (suc p) e up is = place-later cmp total y es e.0 (less-than y.0 es p e up.0 is) ∙ ap suc (place-of es p e up.1 is)

  module _ (es : List (K × X)) (up : IsIncreasing cmp es) (p : ℕ) {e : K × X} (is : slice_get es p ≡ Some e) where
    there : is_present cmp es e.0 ≡ true
    there = ap (λ n. is_some (option_and_then (λ (x : K × X). if is_eq (cmp x.0 e.0) then Some x else None) (slice_get es n))) (place-of es p e up is)
        ∙ ap (λ o. is_some (option_and_then (λ (x : K × X). if is_eq (cmp x.0 e.0) then Some x else None) o)) is
        ∙ ap (λ r. is_some (if is_eq r then Some e else None)) (tied_itself total e.0)

    -- removing the entry at a place cuts its key out
    cut-of : remove es p ≡ cut cmp es e.0
    cut-of = sym (cut-present cmp es e.0 there ∙ ap (remove es) (place-of es p e up is))

    module _ {es' : List (K × X)} (left : es' ≡ remove es p) where
      -- the key of the entry that was removed has no value
      pub gone-removed : value_for cmp es' e.0 ≡ None
      gone-removed = gone-cut total es up e.0 (left ∙ cut-of)

      -- all other keys have the values that they had
      pub others-removed : (q : K) → is_eq (cmp e.0 q) ≡ false → value_for cmp es' q ≡ value_for cmp es q
      others-removed = others-cut total es up e.0 (left ∙ cut-of)
