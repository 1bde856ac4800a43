-- Lookups after a removal, from the front of a list.
use Rattle.bforest_nodes.proofs.Ordered.{IsIncreasing-cut, above, place-here, place-later}
use Rattle.bforest_nodes.specs.Entries.{IsIncreasing, cut, entry_for, is_present, place, value_for}
use Rattle.std.proofs.Common.{Bool, List, None, Option, Some, [], ap, false, if◌then◌else◌, refl, remove, slice_get, subst, sym, true, ◌∙◌, ◌∷◌, ◌≡◌}
use Rattle.std.specs.Cmp.{IsTotalOrder}
use Rattle.std.specs.List.Sorted.{IsStrictlySortedBy}
use Rattle.std.specs.List.{AllByRecursion}
use Rattle.std.specs.Map.{keys_of}
use Rattle.std.specs.Option.{is_some, option_and_then, option_map}
use Rattle.std.specs.Ordering.{is_eq, is_lt, ordering_reverse}
use Rattle.std.specs.Prelude.{ℕ}
use Rattle.std.specs.declared.cmp.Ordering.TheVariants.{Equal, Greater, Less}
use Rattle.std.specs.declared.cmp.Ordering.{Ordering}

-- a key that compares equal to another is less than all keys that the other is less than
like-first : {K : Type 0} (cmp : K → K → Ordering) (o : IsTotalOrder cmp) (k q : K) (ks : List K) → cmp k q ≡ Equal → AllByRecursion (λ y. cmp k y ≡ Less) ks → AllByRecursion (λ y. cmp q y ≡ Less) ks
like-first cmp o k q [] t h = tt
like-first cmp o k q (y ∷ ys) t h = (sym (o.congr k q y t) ∙ h.0, like-first cmp o k q ys t h.1)

module _ {K X : Type 0} (cmp : K → K → Ordering) (o : IsTotalOrder cmp) where
  -- the value that a lookup finds at a place, and what a removal leaves there
  value_in : List (K × X) → K → ℕ → Option X
  value_in es k p = option_map (λ x. x.1) (option_and_then (λ x. if is_eq (cmp x.0 k) then Some x else None) (slice_get es p))

  cut_in : List (K × X) → K → ℕ → List (K × X)
  cut_in es k p = if is_some (option_and_then (λ x. if is_eq (cmp x.0 k) then Some x else None) (slice_get es p)) then remove es p else es

  module _ (e : K × X) (es : List (K × X)) (k : K) where
    -- a lookup and a removal of a key that is greater than the first one
    value-less : cmp e.0 k ≡ Less → value_for cmp (e ∷ es) k ≡ value_for cmp es k
    unfolding value_in
    value-less t = ap (value_in (e ∷ es) k) (place-later cmp o e es k t)

    cut-less : cmp e.0 k ≡ Less → cut cmp (e ∷ es) k ≡ e ∷ cut cmp es k
    unfolding cut_in
    cut-less t = ap (cut_in (e ∷ es) k) (place-later cmp o e es k t) ∙ go (is_present cmp es k)
      where
        go : (b : Bool) → (if b then e ∷ remove es (place cmp es k) else e ∷ es) ≡ e ∷ (if b then remove es (place cmp es k) else es)
        go true = refl
        go false = refl

    -- a lookup and a removal of a key that is not greater than the first one
    value-here : IsIncreasing cmp (e ∷ es) → (r : Ordering) → cmp e.0 k ≡ r → is_lt r ≡ false → value_for cmp (e ∷ es) k ≡ (if is_eq r then Some e.1 else None)
    unfolding value_in
    value-here h r t ge = ap (value_in (e ∷ es) k) (place-here cmp o e es k h (ap is_lt t ∙ ge)) ∙ ap (λ s. option_map (λ (x : K × X). x.1) (if is_eq s then Some e else None)) t ∙ go (is_eq r)
      where
        go : (b : Bool) → option_map (λ (x : K × X). x.1) (if b then Some e else None) ≡ (if b then Some e.1 else None)
        go true = refl
        go false = refl

    cut-here : IsIncreasing cmp (e ∷ es) → (r : Ordering) → cmp e.0 k ≡ r → is_lt r ≡ false → cut cmp (e ∷ es) k ≡ (if is_eq r then es else e ∷ es)
    unfolding cut_in
    cut-here h r t ge = ap (cut_in (e ∷ es) k) (place-here cmp o e es k h (ap is_lt t ∙ ge)) ∙ ap (λ s. if is_some (if is_eq s then Some e else None) then es else e ∷ es) t ∙ go (is_eq r)
      where
        go : (b : Bool) → (if is_some (if b then Some e else None) then es else e ∷ es) ≡ (if b then es else e ∷ es)
        go true = refl
        go false = refl

  -- a key that is less than all is absent
  value-before : (es : List (K × X)) (k : K) → IsIncreasing cmp es → AllByRecursion (λ y. cmp k y ≡ Less) (keys_of es) → value_for cmp es k ≡ None
  value-before [] k h l = refl
  value-before (e ∷ es) k h l = value-here e es k h Greater (o.antisymm e.0 k ∙ ap ordering_reverse l.0) refl

  -- a removed key has no value
  pub value_for-cut : (es : List (K × X)) (k : K) → IsIncreasing cmp es → value_for cmp (cut cmp es k) k ≡ None
  unfolding IsStrictlySortedBy
  value_for-cut [] k h = refl
  value_for-cut (e ∷ es) k h = go (value_for-cut es k h.1) (cmp e.0 k) refl
    where
      go : value_for cmp (cut cmp es k) k ≡ None → (r : Ordering) → cmp e.0 k ≡ r → value_for cmp (cut cmp (e ∷ es) k) k ≡ None
      go further Less t = ap (λ l. value_for cmp l k) (cut-less e es k t) ∙ value-less e (cut cmp es k) k t ∙ further
      go further Equal t = ap (λ l. value_for cmp l k) (cut-here e es k h Equal t refl) ∙ value-before es k h.1 (like-first cmp o e.0 k (keys_of es) t h.0)
      go further Greater t = ap (λ l. value_for cmp l k) (cut-here e es k h Greater t refl) ∙ value-here e es k h Greater t refl

  -- a removed key is absent
  pub is_present-cut : (es : List (K × X)) (k : K) → IsIncreasing cmp es → is_present cmp (cut cmp es k) k ≡ false
  is_present-cut es k h = go (entry_for cmp (cut cmp es k) k) (value_for-cut es k h)
    where
      go : (o : Option (K × X)) → option_map (λ e. e.1) o ≡ None → is_some o ≡ false
      go None e = refl
      go (Some x) e = absurd (cc)

  module _ (k q : K) (apart : is_eq (cmp k q) ≡ false) where
    -- every key that compares unequal to a removed key keeps its value
    pub value_for-cut_other : (es : List (K × X)) → IsIncreasing cmp es → value_for cmp (cut cmp es k) q ≡ value_for cmp es q
    unfolding IsStrictlySortedBy
    value_for-cut_other [] h = refl
    value_for-cut_other (e ∷ es) h = go (value_for-cut_other es h.1) (cmp e.0 k) refl
      where
        same : value_for cmp (cut cmp es k) q ≡ value_for cmp es q → cmp e.0 k ≡ Less → IsIncreasing cmp (e ∷ cut cmp es k) → (r : Ordering) → cmp e.0 q ≡ r → value_for cmp (e ∷ cut cmp es k) q ≡ value_for cmp (e ∷ es) q
        same further t up Less s = value-less e (cut cmp es k) q s ∙ further ∙ sym (value-less e es q s)
        same further t up Equal s = value-here e (cut cmp es k) q up Equal s refl ∙ sym (value-here e es q h Equal s refl)
        same further t up Greater s = value-here e (cut cmp es k) q up Greater s refl ∙ sym (value-here e es q h Greater s refl)

        gone : cmp e.0 k ≡ Equal → (r : Ordering) → cmp e.0 q ≡ r → value_for cmp es q ≡ value_for cmp (e ∷ es) q
        gone t Less s = sym (value-less e es q s)
        gone t Equal s = let bad : is_eq (cmp k q) ≡ true = ap is_eq (sym (o.congr e.0 k q t) ∙ s) in absurd (cc)
        gone t Greater s = value-before es q h.1 (above cmp o q e.0 (keys_of es) (o.antisymm q e.0 ∙ ap ordering_reverse s) h.0) ∙ sym (value-here e es q h Greater s refl)

        go : value_for cmp (cut cmp es k) q ≡ value_for cmp es q → (r : Ordering) → cmp e.0 k ≡ r → value_for cmp (cut cmp (e ∷ es) k) q ≡ value_for cmp (e ∷ es) q
        go further Less t = ap (λ l. value_for cmp l q) (cut-less e es k t) ∙ same further t (subst (IsIncreasing cmp) (cut-less e es k t) (IsIncreasing-cut cmp (e ∷ es) k h)) (cmp e.0 q) refl
        go further Equal t = ap (λ l. value_for cmp l q) (cut-here e es k h Equal t refl) ∙ gone t (cmp e.0 q) refl
        go further Greater t = ap (λ l. value_for cmp l q) (cut-here e es k h Greater t refl)
