-- Increasing lists of entries stay increasing.
use Rattle.bforest_nodes.proofs.Found.{cut-absent, cut-present, put-absent, put-present, value_for-absent}
use Rattle.bforest_nodes.specs.Entries.{IsIncreasing, cut, is_present, place, put, value_for, with_value}
use Rattle.std.proofs.Common.{Bool, List, None, Some, [], ap, arith, cond, false, if◌then◌else◌, insert, refl, remove, slice_get, subst, suc, sym, true, zero, ◌+◌, ◌∙◌, ◌∷◌, ◌≡◌, ℕ}
use Rattle.std.proofs.lemmas.List.Sums.{sum_by-cons}
use Rattle.std.specs.Cmp.{IsTotalOrder}
use Rattle.std.specs.List.Sorted.{IsStrictlySortedBy}
use Rattle.std.specs.List.{AllByRecursion}
use Rattle.std.specs.Map.{keys_of}
use Rattle.std.specs.Option.{option_and_then, option_map}
use Rattle.std.specs.Ordering.{is_eq, is_lt, ordering_reverse}
use Rattle.std.specs.declared.cmp.Ordering.TheVariants.{Equal, Greater, Less}
use Rattle.std.specs.declared.cmp.Ordering.{Ordering}

module _ {K X : Type 0} where
  -- writing a value keeps the keys
  keys_of-with_value : (es : List (K × X)) (p : ℕ) (w : X) → keys_of (with_value es p w) ≡ keys_of es
  keys_of-with_value [] p w = refl
  keys_of-with_value (e ∷ es) zero w = refl
  keys_of-with_value (e ∷ es) (suc p) w = ap (λ ks. e.0 ∷ ks) (keys_of-with_value es p w)

  -- writing a value keeps a list increasing
  IsIncreasing-with_value : (cmp : K → K → Ordering) (es : List (K × X)) (p : ℕ) (w : X) → IsIncreasing cmp es → IsIncreasing cmp (with_value es p w)
  IsIncreasing-with_value cmp es p w h = subst (IsStrictlySortedBy cmp) (sym (keys_of-with_value es p w)) h

-- a key less than q is less than all keys that q is less than
pub above : {K : Type 0} (cmp : K → K → Ordering) (o : IsTotalOrder cmp) (k q : K) (ks : List K) → cmp k q ≡ Less → AllByRecursion (λ y. cmp q y ≡ Less) ks → AllByRecursion (λ y. cmp k y ≡ Less) ks
above cmp o k q [] l h = tt
above cmp o k q (x ∷ xs) l h = (o.trans _ _ _ l h.0, above cmp o k q xs l h.1)

module _ {K X : Type 0} (cmp : K → K → Ordering) (o : IsTotalOrder cmp) where
  -- where the first key is not less than k, no later key is
  place_zero : (e : K × X) (es : List (K × X)) (k : K) → AllByRecursion (λ y. cmp e.0 y ≡ Less) (keys_of es) → is_lt (cmp e.0 k) ≡ false → place cmp es k ≡ 0
  place_zero e [] k h ge = refl
  place_zero e (x ∷ es) k h ge = sum_by-cons (λ y. cond (is_lt (cmp y.0 k)) 1 0) x es ∙ ap (λ b. cond b 1 0 + place cmp es k) (go (cmp x.0 k) refl) ∙ (let n : 0 + place cmp es k ≡ place cmp es k = omega arith in n) ∙ place_zero e es k h.1 ge
    where
      go : (r : Ordering) → cmp x.0 k ≡ r → is_lt (cmp x.0 k) ≡ false
      go Less t = let bad : is_lt (cmp e.0 k) ≡ true = ap is_lt (o.trans _ _ _ h.0 t) in absurd (cc)
      go Equal t = ap is_lt t
      go Greater t = ap is_lt t

  module _ (e : K × X) (es : List (K × X)) (k : K) where
    -- the place counts the first key where it is less
    place-cons : place cmp (e ∷ es) k ≡ cond (is_lt (cmp e.0 k)) 1 0 + place cmp es k
    place-cons = sum_by-cons (λ (y : K × X). cond (is_lt (cmp y.0 k)) 1 0) e es

    -- the place after a lesser first key is one more
    pub place-later : cmp e.0 k ≡ Less → place cmp (e ∷ es) k ≡ suc (place cmp es k)
    place-later t = place-cons ∙ ap (λ r. cond (is_lt r) 1 0 + place cmp es k) t ∙ omega arith

    -- the place is 0 where the first key is not less
    pub place-here : IsIncreasing cmp (e ∷ es) → is_lt (cmp e.0 k) ≡ false → place cmp (e ∷ es) k ≡ 0
    unfolding IsStrictlySortedBy
    place-here h t =
        let n : 0 + place cmp es k ≡ place cmp es k = omega arith in
        place-cons ∙ ap (λ b. cond b 1 0 + place cmp es k) t ∙ n ∙ place_zero e es k h.0 t

  -- a key less than all entries and than a new one is less than all entries of the list with it
  above-insert : (k : K) (es : List (K × X)) (p : ℕ) (x : K × X) → AllByRecursion (λ y. cmp k y ≡ Less) (keys_of es) → cmp k x.0 ≡ Less → AllByRecursion (λ y. cmp k y ≡ Less) (keys_of (insert es p x))
  above-insert k [] zero x h l = (l, tt)
  above-insert k [] (suc p) x h l = (l, tt)
  above-insert k (e ∷ es) zero x h l = (l, h)
  above-insert k (e ∷ es) (suc p) x h l = (h.0, above-insert k es p x h.1 l)

  -- inserting an absent key's entry at its place, by how the first key compares with it
  insert_first : (e : K × X) (es : List (K × X)) (k : K) (v : X) → IsIncreasing cmp (e ∷ es) → value_for cmp (e ∷ es) k ≡ None
      → (value_for cmp es k ≡ None → IsIncreasing cmp (insert es (place cmp es k) (k, v))) → (r : Ordering) → cmp e.0 k ≡ r
      → IsIncreasing cmp (insert (e ∷ es) (place cmp (e ∷ es) k) (k, v))
  unfolding IsStrictlySortedBy
  insert_first e es k v h absent rest r t = go r t
    where
      go : (r : Ordering) → cmp e.0 k ≡ r → IsIncreasing cmp (insert (e ∷ es) (place cmp (e ∷ es) k) (k, v))
      go Less t =
          let p = place-later e es k t in
          let gone : value_for cmp es k ≡ None = sym (ap (λ n. option_map (λ x. x.1) (option_and_then (λ x. if is_eq (cmp x.0 k) then Some x else None) (slice_get (e ∷ es) n))) p) ∙ absent in
          subst (λ n. IsIncreasing cmp (insert (e ∷ es) n (k, v))) (sym p) (above-insert e.0 es (place cmp es k) (k, v) h.0 t, rest gone)
      go Equal t =
          let p = place-here e es k h (ap is_lt t) in
          let some : value_for cmp (e ∷ es) k ≡ Some e.1 = ap (λ n. option_map (λ x. x.1) (option_and_then (λ x. if is_eq (cmp x.0 k) then Some x else None) (slice_get (e ∷ es) n))) p ∙ ap (λ r. option_map (λ x. x.1) (if is_eq r then Some e else None)) t in
          let bad : Some e.1 ≡ None = sym some ∙ absent in
          absurd (cc)
      go Greater t =
          let p = place-here e es k h (ap is_lt t) in
          let l : cmp k e.0 ≡ Less = o.antisymm _ _ ∙ ap ordering_reverse t in
          subst (λ n. IsIncreasing cmp (insert (e ∷ es) n (k, v))) (sym p) ((l, above cmp o k e.0 (keys_of es) l h.0), h)

  -- inserting an absent key's entry at its place keeps a list increasing
  IsIncreasing-insert : (es : List (K × X)) (k : K) (v : X) → IsIncreasing cmp es → value_for cmp es k ≡ None → IsIncreasing cmp (insert es (place cmp es k) (k, v))
  unfolding IsStrictlySortedBy
  IsIncreasing-insert [] k v h absent = (tt, tt)
  IsIncreasing-insert (e ∷ es) k v h absent = insert_first e es k v h absent (IsIncreasing-insert es k v h.1) (cmp e.0 k) refl

  -- an insertion keeps a list increasing
  pub IsIncreasing-put : (es : List (K × X)) (k : K) (v : X) → IsIncreasing cmp es → IsIncreasing cmp (put cmp es k v)
  IsIncreasing-put es k v h = go (is_present cmp es k) refl
    where
      go : (b : Bool) → is_present cmp es k ≡ b → IsIncreasing cmp (put cmp es k v)
      go true t = subst (IsIncreasing cmp) (sym (put-present cmp es k v t)) (IsIncreasing-with_value cmp es (place cmp es k) v h)
      go false t = subst (IsIncreasing cmp) (sym (put-absent cmp es k v t)) (IsIncreasing-insert es k v h (value_for-absent cmp es k t))

module _ {K X : Type 0} (cmp : K → K → Ordering) where
  -- what holds of all keys holds of all keys but one
  all-remove : (P : K → Type 0) (es : List (K × X)) (p : ℕ) → AllByRecursion P (keys_of es) → AllByRecursion P (keys_of (remove es p))
  all-remove P [] zero h = tt
  all-remove P [] (suc p) h = tt
  all-remove P (e ∷ es) zero h = h.1
  all-remove P (e ∷ es) (suc p) h = (h.0, all-remove P es p h.1)

  -- removing an entry keeps a list increasing
  pub IsIncreasing-remove : (es : List (K × X)) (p : ℕ) → IsIncreasing cmp es → IsIncreasing cmp (remove es p)
  unfolding IsStrictlySortedBy
  IsIncreasing-remove [] zero h = tt
  IsIncreasing-remove [] (suc p) h = tt
  IsIncreasing-remove (e ∷ es) zero h = h.1
  IsIncreasing-remove (e ∷ es) (suc p) h = (all-remove (λ y. cmp e.0 y ≡ Less) es p h.0, IsIncreasing-remove es p h.1)

  -- removing a key's entry keeps a list increasing
  pub IsIncreasing-cut : (es : List (K × X)) (k : K) → IsIncreasing cmp es → IsIncreasing cmp (cut cmp es k)
  IsIncreasing-cut es k h = go (is_present cmp es k) refl
    where
      go : (b : Bool) → is_present cmp es k ≡ b → IsIncreasing cmp (cut cmp es k)
      go true t = subst (IsIncreasing cmp) (sym (cut-present cmp es k t)) (IsIncreasing-remove es (place cmp es k) h)
      go false t = subst (IsIncreasing cmp) (sym (cut-absent cmp es k t)) h
