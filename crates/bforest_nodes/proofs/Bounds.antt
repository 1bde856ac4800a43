-- The number of the first keys of a row that are less than a key, or not greater, from tests of a few keys.
use Rattle.std.proofs.Common.{◌≡◌, Bool, ℕ, zero, suc, ◌<◌, ◌≤◌, true, false, not, Option, Some, List, [], ◌∷◌, get_or, length, take, refl, sym, ap, ◌∙◌, inl, inr, arith}
use Rattle.std.proofs.lemmas.Bool.{cases_lt}
use Rattle.std.proofs.lemmas.List.{get_or-take, get_or_default, length-take-le}
use Rattle.std.proofs.lemmas.Map.Keys.{Less-from_sorted}
use Rattle.std.specs.Cmp.{IsTotalOrder}
use Rattle.std.specs.List.Sorted.{IsStrictlySortedBy}
use Rattle.std.specs.Ordering.{is_ge, is_gt, is_le, is_lt, is_some_and, partial_ge, partial_gt, partial_le, partial_lt}
use Rattle.std.specs.declared.cmp.Ordering.TheVariants.{Equal, Greater, Less}
use Rattle.std.specs.declared.cmp.Ordering.{Ordering}
use Rattle.bforest_nodes.specs.Search.{count_less, count_up_to}
use Rattle.bforest_nodes.proofs.Searched.{before, count_less-from_parts, count_up_to-no, count_up_to-yes, greater, not_before}

module _ {K : Type 0} (cmp : K → K → Ordering) where
  -- where the first i keys are not greater and the others are, i keys are not greater
  count_up_to-from_parts : (ks : List K) (k : K) (i : ℕ) → i ≤ length ks → ((j : ℕ) (d : K) → j < i → is_gt (cmp (get_or ks j d) k) ≡ false) → ((j : ℕ) (d : K) → i ≤ j → j < length ks → is_gt (cmp (get_or ks j d) k) ≡ true) → count_up_to cmp ks k ≡ i
  count_up_to-from_parts [] k i le low high = omega arith
  count_up_to-from_parts (x ∷ xs) k zero le low high = count_up_to-no cmp x xs k (high 0 x (omega arith) (omega arith)) ∙ count_up_to-from_parts xs k zero (omega arith) (λ j d h. absurd (omega arith)) (λ j d h g. high (suc j) d (omega arith) (omega arith))
  count_up_to-from_parts (x ∷ xs) k (suc i) le low high = count_up_to-yes cmp x xs k (low 0 x (omega arith)) ∙ ap suc (count_up_to-from_parts xs k i (omega arith) (λ j d h. low (suc j) d (omega arith)) (λ j d h g. high (suc j) d (omega arith) (omega arith)))

  not_greater : (x k : K) → is_lt (cmp x k) ≡ true → is_gt (cmp x k) ≡ false
  not_greater x k less = go (cmp x k) less
    where
      go : (r : Ordering) → is_lt r ≡ true → is_gt r ≡ false
      go Less e = refl
      go Equal e = refl
      go Greater e = absurd (cc)

  not_less : (x k : K) → is_gt (cmp x k) ≡ true → is_lt (cmp x k) ≡ false
  not_less x k more = go (cmp x k) more
    where
      go : (r : Ordering) → is_gt r ≡ true → is_lt r ≡ false
      go Less e = absurd (cc)
      go Equal e = refl
      go Greater e = refl

  module _ (o : IsTotalOrder cmp) (row : List K) (len : ℕ) (k : K) (within : len ≤ length row) (sorted : IsStrictlySortedBy cmp (take len row)) where
    -- the keys that count, as a list
    size : length (take len row) ≡ len
    size = length-take-le len row within

    in_row : (j : ℕ) (d : K) → j < len → get_or (take len row) j d ≡ get_or row j d
    in_row j d low = get_or-take len row j d low

    -- where the keys before an index are less and the one there is not, the index is `count_less`
    pub less-at : (at : ℕ) → at ≤ len → ((j : ℕ) (d : K) → j < at → is_lt (cmp (get_or row j d) k) ≡ true) → ((d : K) → at < len → is_lt (cmp (get_or row at d) k) ≡ false) → at ≡ count_less cmp (take len row) k
    less-at at most low here = sym (count_less-from_parts cmp (take len row) k at (omega (arith, most, size))
        (λ j d lt. ap (λ z. is_lt (cmp z k)) (in_row j d (omega (arith, lt, most))) ∙ low j d lt)
        (λ j d le lt. not_before cmp o (take len row) k sorted at j d le lt (ap (λ z. is_lt (cmp z k)) (in_row at d (omega (arith, le, lt, size))) ∙ here d (omega (arith, le, lt, size)))))

    -- the keys before a lesser key are less
    pub less-before : (i j : ℕ) (d : K) → j < i → i < len → is_lt (cmp (get_or row i d) k) ≡ true → is_lt (cmp (get_or row j d) k) ≡ true
    less-before i j d lt low less = ap (λ z. is_lt (cmp z k)) (sym (in_row j d (omega (arith, lt, low)))) ∙ before cmp o (take len row) k sorted i j d lt (omega (arith, low, size)) (ap (λ z. is_gt (cmp z k)) (in_row i d low) ∙ not_greater (get_or row i d) k less)

    -- where the keys before an index are not greater and the one there is, the index is `count_up_to`
    pub up_to-at : (at : ℕ) → at ≤ len → ((j : ℕ) (d : K) → j < at → is_gt (cmp (get_or row j d) k) ≡ false) → ((d : K) → at < len → is_gt (cmp (get_or row at d) k) ≡ true) → at ≡ count_up_to cmp (take len row) k
    up_to-at at most low here = sym (count_up_to-from_parts (take len row) k at (omega (arith, most, size))
        (λ j d lt. ap (λ z. is_gt (cmp z k)) (in_row j d (omega (arith, lt, most))) ∙ low j d lt)
        (λ j d le lt. elim (cases_lt at j) [
          | inl more ↦ (let e = greater cmp k o (get_or (take len row) at d) (get_or (take len row) j d)
              (Less-from_sorted cmp (take len row) at j d sorted more lt)
              (ap (λ z. is_lt (cmp z k)) (in_row at d (omega (arith, le, lt, size)))
              ∙ not_less (get_or row at d) k (here d (omega (arith, le, lt, size)))) in ap is_gt e)
          | inr less ↦ (let e : at ≡ j = omega (arith, less, le) in ap (λ z. is_gt (cmp (get_or (take len row) z d) k)) (sym e) ∙ ap (λ z. is_gt (cmp z k)) (in_row at d (omega (arith, le, lt, size))) ∙ here d (omega (arith, le, lt, size)))
        ]))

    -- the keys before one that is not greater are not greater
    pub up_to-before : (i j : ℕ) (d : K) → j < i → i < len → is_gt (cmp (get_or row i d) k) ≡ false → is_gt (cmp (get_or row j d) k) ≡ false
    up_to-before i j d lt low not_more = not_greater (get_or row j d) k (ap (λ z. is_lt (cmp z k)) (sym (in_row j d (omega (arith, lt, low)))) ∙ before cmp o (take len row) k sorted i j d lt (omega (arith, low, size)) (ap (λ z. is_gt (cmp z k)) (in_row i d low) ∙ not_more))

-- the tests of a key that was read, by the order
module _ {K : Type 0} (cmp : K → K → Ordering) (partial : K → K → Option Ordering) (matches : (x y : K) → partial x y ≡ Some (cmp x y)) (row : List K) (i : ℕ) (x k : K) (within : i < length row) (read : x ≡ get_or row i x) where
  read_any : (d : K) → get_or row i d ≡ x
  read_any d = get_or_default row i d x within ∙ sym read

  -- a test that the key is less
  pub told-lt : (b : Bool) → b ≡ partial_lt partial x k → (d : K) → is_lt (cmp (get_or row i d) k) ≡ b
  told-lt b is d = ap (λ z. is_lt (cmp z k)) (read_any d) ∙ sym (ap (λ o. is_some_and is_lt o) (matches x k)) ∙ sym is

  -- a test that the key is greater
  pub told-gt : (b : Bool) → b ≡ partial_gt partial x k → (d : K) → is_gt (cmp (get_or row i d) k) ≡ b
  told-gt b is d = ap (λ z. is_gt (cmp z k)) (read_any d) ∙ sym (ap (λ o. is_some_and is_gt o) (matches x k)) ∙ sym is

  -- a test that the key is not less
  pub told-ge : (b : Bool) → b ≡ partial_ge partial x k → (d : K) → is_lt (cmp (get_or row i d) k) ≡ not b
  told-ge b is d = ap (λ z. is_lt (cmp z k)) (read_any d) ∙ go (cmp x k) ∙ ap not (sym (ap (λ o. is_some_and is_ge o) (matches x k)) ∙ sym is)
    where
      go : (r : Ordering) → is_lt r ≡ not (is_ge r)
      go Less = refl
      go Equal = refl
      go Greater = refl

  -- a test that the key is not greater
  pub told-le : (b : Bool) → b ≡ partial_le partial x k → (d : K) → is_gt (cmp (get_or row i d) k) ≡ not b
  told-le b is d = ap (λ z. is_gt (cmp z k)) (read_any d) ∙ go (cmp x k) ∙ ap not (sym (ap (λ o. is_some_and is_le o) (matches x k)) ∙ sym is)
    where
      go : (r : Ordering) → is_gt r ≡ not (is_le r)
      go Less = refl
      go Equal = refl
      go Greater = refl
