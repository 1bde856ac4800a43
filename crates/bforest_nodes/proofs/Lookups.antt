-- Increasing lists, looked up and changed from the front: lemmas for callers.
use Rattle.bforest_nodes.proofs.Ordered.{IsIncreasing-put, place-here, place-later}
use Rattle.bforest_nodes.specs.Entries.{IsIncreasing, entry_for, is_present, place, put, value_for, with_value}
use Rattle.std.proofs.Common.{Bool, List, None, Option, Some, [], ap, false, if◌then◌else◌, insert, refl, slice_get, sym, true, ◌∙◌, ◌∷◌, ◌≡◌, ℕ}
use Rattle.std.specs.Cmp.{IsTotalOrder, tied_itself}
use Rattle.std.specs.List.Sorted.{IsStrictlySortedBy}
use Rattle.std.specs.Option.{is_some, option_and_then, option_map}
use Rattle.std.specs.Ordering.{is_eq, is_lt, ordering_reverse}
use Rattle.std.specs.declared.cmp.Ordering.TheVariants.{Equal, Greater, Less}
use Rattle.std.specs.declared.cmp.Ordering.{Ordering}

-- the result of a lookup by how the first key compares: further on, here, or none
abbrev answer : {X : Type 0} → Ordering → X → Option X → Option X
answer Less x further = further
answer Equal x further = Some x
answer Greater x further = None

module _ {K X : Type 0} (cmp : K → K → Ordering) where
  -- the value of k, looked up from the front
  abbrev lookup : List (K × X) → K → Option X
  lookup [] k = None
  lookup (e ∷ es) k = answer (cmp e.0 k) e.1 (lookup es k)

  -- the value that a lookup finds at a place
  value_in : List (K × X) → K → ℕ → Option X
  value_in es k p = option_map (λ x. x.1) (option_and_then (λ x. if is_eq (cmp x.0 k) then Some x else None) (slice_get es p))

  -- the list after an insertion at a place
  put_in : List (K × X) → K → X → ℕ → List (K × X)
  put_in es k v p = if is_some (option_and_then (λ x. if is_eq (cmp x.0 k) then Some x else None) (slice_get es p)) then with_value es p v else insert es p (k, v)

  module _ (o : IsTotalOrder cmp) (e : K × X) (es : List (K × X)) (k : K) where
    -- inserting after a lesser first key
    put-less : (v : X) → cmp e.0 k ≡ Less → put cmp (e ∷ es) k v ≡ e ∷ put cmp es k v
    unfolding put_in
    put-less v t = ap (put_in (e ∷ es) k v) (place-later cmp o e es k t) ∙ go (is_present cmp es k)
      where
        go : (b : Bool) → (if b then e ∷ with_value es (place cmp es k) v else e ∷ insert es (place cmp es k) (k, v)) ≡ e ∷ (if b then with_value es (place cmp es k) v else insert es (place cmp es k) (k, v))
        go true = refl
        go false = refl

    -- inserting at a first key that compares equal
    put-equal : (v : X) → IsIncreasing cmp (e ∷ es) → cmp e.0 k ≡ Equal → put cmp (e ∷ es) k v ≡ (e.0, v) ∷ es
    unfolding put_in
    put-equal v h t = ap (put_in (e ∷ es) k v) (place-here cmp o e es k h (ap is_lt t)) ∙ ap (λ r. if is_some (if is_eq r then Some e else None) then (e.0, v) ∷ es else (k, v) ∷ e ∷ es) t

    -- inserting before a greater first key
    put-greater : (v : X) → IsIncreasing cmp (e ∷ es) → cmp e.0 k ≡ Greater → put cmp (e ∷ es) k v ≡ (k, v) ∷ e ∷ es
    unfolding put_in
    put-greater v h t = ap (put_in (e ∷ es) k v) (place-here cmp o e es k h (ap is_lt t)) ∙ ap (λ r. if is_some (if is_eq r then Some e else None) then (e.0, v) ∷ es else (k, v) ∷ e ∷ es) t

module _ {K X : Type 0} (cmp : K → K → Ordering) (o : IsTotalOrder cmp) where
  -- the value at the place is the one looked up from the front
  value_for-lookup : (es : List (K × X)) (k : K) → IsIncreasing cmp es → value_for cmp es k ≡ lookup cmp es k
  unfolding IsStrictlySortedBy value_in
  value_for-lookup [] k h = refl
  value_for-lookup (e ∷ es) k h = go (value_for-lookup es k h.1) (cmp e.0 k) refl
    where
      go : value_for cmp es k ≡ lookup cmp es k → (r : Ordering) → cmp e.0 k ≡ r → value_for cmp (e ∷ es) k ≡ answer (cmp e.0 k) e.1 (lookup cmp es k)
      go further Less t = ap (value_in cmp (e ∷ es) k) (place-later cmp o e es k t) ∙ further ∙ sym (ap (λ r. answer r e.1 (lookup cmp es k)) t)
      go further Equal t = ap (value_in cmp (e ∷ es) k) (place-here cmp o e es k h (ap is_lt t)) ∙ ap (λ r. option_map (λ (x : K × X). x.1) (if is_eq r then Some e else None)) t ∙ sym (ap (λ r. answer r e.1 (lookup cmp es k)) t)
      go further Greater t = ap (value_in cmp (e ∷ es) k) (place-here cmp o e es k h (ap is_lt t)) ∙ ap (λ r. option_map (λ (x : K × X). x.1) (if is_eq r then Some e else None)) t ∙ sym (ap (λ r. answer r e.1 (lookup cmp es k)) t)

  -- one step of a lookup, for a known comparison of the first key
  lookup-step : (e : K × X) (es : List (K × X)) (q : K) (r : Ordering) → cmp e.0 q ≡ r → lookup cmp (e ∷ es) q ≡ answer r e.1 (lookup cmp es q)
  lookup-step e es q r t = ap (λ s. answer s e.1 (lookup cmp es q)) t

  module _ (k : K) (v : X) where
    -- a lookup of the inserted key
    lookup-put : (es : List (K × X)) → IsIncreasing cmp es → lookup cmp (put cmp es k v) k ≡ Some v
    unfolding IsStrictlySortedBy
    lookup-put [] h = ap (λ r. answer r v None) (tied_itself o k)
    lookup-put (e ∷ es) h = go (lookup-put es h.1) (cmp e.0 k) refl
      where
        go : lookup cmp (put cmp es k v) k ≡ Some v → (r : Ordering) → cmp e.0 k ≡ r → lookup cmp (put cmp (e ∷ es) k v) k ≡ Some v
        go further Less t = ap (λ l. lookup cmp l k) (put-less cmp o e es k v t) ∙ ap (answer (cmp e.0 k) e.1) further ∙ ap (λ r. answer r e.1 (Some v)) t
        go further Equal t = ap (λ l. lookup cmp l k) (put-equal cmp o e es k v h t) ∙ ap (λ r. answer r v (lookup cmp es k)) t
        go further Greater t = ap (λ l. lookup cmp l k) (put-greater cmp o e es k v h t) ∙ ap (λ r. answer r v (lookup cmp (e ∷ es) k)) (tied_itself o k)

    -- after an insertion the key has the inserted value
    pub value_for-put : (es : List (K × X)) → IsIncreasing cmp es → value_for cmp (put cmp es k v) k ≡ Some v
    value_for-put es h = value_for-lookup (put cmp es k v) k (IsIncreasing-put cmp o es k v h) ∙ lookup-put es h

    -- after an insertion the key is present
    pub is_present-put : (es : List (K × X)) → IsIncreasing cmp es → is_present cmp (put cmp es k v) k ≡ true
    is_present-put es h = go (entry_for cmp (put cmp es k v) k) (value_for-put es h)
      where
        go : (x : Option (K × X)) → option_map (λ e. e.1) x ≡ Some v → is_some x ≡ true
        go None e = absurd (cc)
        go (Some x) e = refl

  module _ (k q : K) (v : X) (apart : is_eq (cmp k q) ≡ false) where
    -- a lookup of another key after an insertion
    lookup-put_other : (es : List (K × X)) → IsIncreasing cmp es → lookup cmp (put cmp es k v) q ≡ lookup cmp es q
    unfolding IsStrictlySortedBy
    lookup-put_other [] h = alone (cmp k q) apart
      where
        alone : (r : Ordering) → is_eq r ≡ false → answer r v None ≡ None
        alone Less h = refl
        alone Equal h = absurd (cc)
        alone Greater h = refl
    lookup-put_other (e ∷ es) h = go (lookup-put_other es h.1) (cmp e.0 k) refl
      where
        go : lookup cmp (put cmp es k v) q ≡ lookup cmp es q → (r : Ordering) → cmp e.0 k ≡ r → lookup cmp (put cmp (e ∷ es) k v) q ≡ lookup cmp (e ∷ es) q
        go further Less t = ap (λ l. lookup cmp l q) (put-less cmp o e es k v t) ∙ ap (answer (cmp e.0 q) e.1) further
        go further Equal t = ap (λ l. lookup cmp l q) (put-equal cmp o e es k v h t) ∙ same (cmp e.0 q) (ap is_eq (o.congr e.0 k q t) ∙ apart)
          where
            same : (r : Ordering) → is_eq r ≡ false → answer r v (lookup cmp es q) ≡ answer r e.1 (lookup cmp es q)
            same Less h = refl
            same Equal h = absurd (cc)
            same Greater h = refl
        go further Greater t = ap (λ l. lookup cmp l q) (put-greater cmp o e es k v h t) ∙ first (cmp k q) refl
          where
            first : (r : Ordering) → cmp k q ≡ r → answer (cmp k q) v (lookup cmp (e ∷ es) q) ≡ lookup cmp (e ∷ es) q
            first Less s = ap (λ r. answer r v (lookup cmp (e ∷ es) q)) s
            first Equal s = let bad : is_eq (cmp k q) ≡ true = ap is_eq s in absurd (cc)
            first Greater s =
                let below : cmp q e.0 ≡ Less = o.trans q k e.0 (o.antisymm q k ∙ ap ordering_reverse s) (o.antisymm k e.0 ∙ ap ordering_reverse t) in
                let beyond : cmp e.0 q ≡ Greater = o.antisymm e.0 q ∙ ap ordering_reverse below in
                ap (λ r. answer r v (lookup cmp (e ∷ es) q)) s ∙ sym (lookup-step e es q Greater beyond)

    -- after an insertion every key that compares unequal has the same value as before
    pub value_for-put_other : (es : List (K × X)) → IsIncreasing cmp es → value_for cmp (put cmp es k v) q ≡ value_for cmp es q
    value_for-put_other es h = value_for-lookup (put cmp es k v) q (IsIncreasing-put cmp o es k v h) ∙ lookup-put_other es h ∙ sym (value_for-lookup es q h)
