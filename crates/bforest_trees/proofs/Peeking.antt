-- The last entry of a list, and the first from a key on, by their places.
use Rattle.bforest_core.specs.Place.{entry_before}
use Rattle.bforest_nodes.proofs.Ordered.{place-here, place-later}
use Rattle.bforest_nodes.specs.Entries.{IsIncreasing, place}
use Rattle.bforest_trees.specs.Bounds.{entry_at_least}
use Rattle.std.proofs.Common.{List, [], ap, arith, cond, false, filter, length, not, refl, slice_get, sym, ◌-◌, ◌∙◌, ◌∷◌, ◌≡◌}
use Rattle.std.specs.Cmp.{IsTotalOrder}
use Rattle.std.specs.List.Sorted.{IsStrictlySortedBy}
use Rattle.std.specs.Ordering.{is_lt}
use Rattle.std.specs.declared.cmp.Ordering.TheVariants.{Equal, Greater, Less}
use Rattle.std.specs.declared.cmp.Ordering.{Ordering}

-- the entry before the end is the last
pub before-end : {A : Type 0} (xs : List A) → entry_before xs (length xs) ≡ slice_get xs (length xs - 1)
before-end [] = refl
before-end (x ∷ xs) = let n : length xs ≡ length (x ∷ xs) - 1 = omega arith in ap (slice_get (x ∷ xs)) n

module _ {K X : Type 0} (cmp : K → K → Ordering) (o : IsTotalOrder cmp) (k : K) where
  -- the first entry whose key is not less than k is at the place of k
  pub at-least : (es : List (K × X)) → IsIncreasing cmp es → slice_get es (place cmp es k) ≡ entry_at_least cmp es k
  unfolding IsStrictlySortedBy
  at-least [] h = refl
  at-least (e ∷ es) h = go (at-least es h.1) (cmp e.0 k) refl
    where
      kept : List (K × X)
      kept = filter (λ y. not (is_lt (cmp y.0 k))) es

      here : is_lt (cmp e.0 k) ≡ false → slice_get (e ∷ es) (place cmp (e ∷ es) k) ≡ entry_at_least cmp (e ∷ es) k
      here more = ap (slice_get (e ∷ es)) (place-here cmp o e es k h more) ∙ sym (ap (λ b. slice_get (cond (not b) (e ∷ kept) kept) 0) more)

      go : slice_get es (place cmp es k) ≡ entry_at_least cmp es k → (r : Ordering) → cmp e.0 k ≡ r → slice_get (e ∷ es) (place cmp (e ∷ es) k) ≡ entry_at_least cmp (e ∷ es) k
      go rest Less is = ap (slice_get (e ∷ es)) (place-later cmp o e es k is) ∙ rest ∙ sym (ap (λ r. slice_get (cond (not (is_lt r)) (e ∷ kept) kept) 0) is)
      go rest Equal is = here (ap is_lt is)
      go rest Greater is = here (ap is_lt is)
