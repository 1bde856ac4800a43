-- The results of a search among the keys of entries.
use Rattle.bforest_nodes.specs.Entries.{cut, entry_for, is_present, place, put, search_for, value_at_place, value_for, with_value}
use Rattle.bforest_nodes.specs.Search.{count_less, is_equal_at, search_of}
use Rattle.std.proofs.Common.{Bool, Err, List, None, Ok, Option, Some, [], ap, arith, cond, false, if◌then◌else◌, insert, length, refl, remove, slice_get, suc, sym, true, zero, ◌+◌, ◌<◌, ◌∙◌, ◌∷◌, ◌≡◌, ℕ}
use Rattle.std.proofs.lemmas.List.Sums.{sum_by-cons}
use Rattle.std.specs.Map.{keys_of}
use Rattle.std.specs.Option.{is_some, option_and_then, option_map}
use Rattle.std.specs.Ordering.{is_eq, is_lt}
use Rattle.std.specs.declared.cmp.Ordering.{Ordering}

module _ {K X : Type 0} (cmp : K → K → Ordering) where
  -- as many keys are less as entries have a lesser key
  count_less-keys_of : (es : List (K × X)) (k : K) → count_less cmp (keys_of es) k ≡ place cmp es k
  count_less-keys_of [] k = refl
  count_less-keys_of (e ∷ es) k =
      sum_by-cons (λ y. cond (is_lt (cmp y k)) 1 0) e.0 (keys_of es) ∙ ap (λ n. cond (is_lt (cmp e.0 k)) 1 0 + n) (count_less-keys_of es k) ∙ sym (sum_by-cons (λ (y : K × X). cond (is_lt (cmp y.0 k)) 1 0) e es)

  -- the test whether the key at i compares equal, by the entry at i
  is_equal_at-keys_of : (es : List (K × X)) (k : K) (i : ℕ) → is_equal_at cmp (keys_of es) k i ≡ is_some (option_and_then (λ e. if is_eq (cmp e.0 k) then Some e else None) (slice_get es i))
  is_equal_at-keys_of [] k i = refl
  is_equal_at-keys_of (e ∷ es) k zero = go (is_eq (cmp e.0 k))
    where
      go : (b : Bool) → b ≡ is_some (if b then Some e else None)
      go true = refl
      go false = refl
  is_equal_at-keys_of (e ∷ es) k (suc i) = is_equal_at-keys_of es k i

  -- a search among the keys gives the place among the entries
  pub search_of-keys_of : (es : List (K × X)) (k : K) → search_of cmp (keys_of es) k ≡ search_for cmp es k
  search_of-keys_of es k = λ j. if (is_equal_at-keys_of es k (count_less cmp (keys_of es) k) ∙ ap (λ n. is_some (option_and_then (λ e. if is_eq (cmp e.0 k) then Some e else None) (slice_get es n))) (count_less-keys_of es k)) j then Ok (count_less-keys_of es k j) else Err (count_less-keys_of es k j)

  module _ (es : List (K × X)) (k : K) where
    -- the answer is `Ok` where the key is present
    pub present_at : (i : ℕ) → Ok i ≡ search_for cmp es k → (i ≡ place cmp es k) × (is_present cmp es k ≡ true)
    present_at i h = go (is_present cmp es k) h
      where
        go : (b : Bool) → Ok i ≡ (if b then Ok (place cmp es k) else Err (place cmp es k)) → (i ≡ place cmp es k) × (b ≡ true)
        go true h = (cc, refl)
        go false h = absurd (cc)

    -- the answer is `Err` where the key is absent
    pub absent_at : (i : ℕ) → Err i ≡ search_for cmp es k → (i ≡ place cmp es k) × (is_present cmp es k ≡ false)
    absent_at i h = go (is_present cmp es k) h
      where
        go : (b : Bool) → Err i ≡ (if b then Ok (place cmp es k) else Err (place cmp es k)) → (i ≡ place cmp es k) × (b ≡ false)
        go true h = absurd (cc)
        go false h = (cc, refl)

    -- the value of a present key is the one at its place
    pub value_for-present : is_present cmp es k ≡ true → value_for cmp es k ≡ value_at_place es (place cmp es k)
    value_for-present h = go (slice_get es (place cmp es k)) h
      where
        go : (o : Option (K × X)) → is_some (option_and_then (λ e. if is_eq (cmp e.0 k) then Some e else None) o) ≡ true → option_map (λ e. e.1) (option_and_then (λ e. if is_eq (cmp e.0 k) then Some e else None) o) ≡ option_map (λ e. e.1) o
        go None h = absurd (cc)
        go (Some e) h = here (is_eq (cmp e.0 k)) h
          where
            here : (b : Bool) → is_some (if b then Some e else None) ≡ true → option_map (λ e. e.1) (if b then Some e else None) ≡ Some e.1
            here true h = refl
            here false h = absurd (cc)

    -- an absent key has no value
    pub value_for-absent : is_present cmp es k ≡ false → value_for cmp es k ≡ None
    value_for-absent h = go (entry_for cmp es k) h
      where
        go : (o : Option (K × X)) → is_some o ≡ false → option_map (λ e. e.1) o ≡ None
        go None h = refl
        go (Some e) h = absurd (cc)

    -- the place of a present key is that of an entry
    pub place-present : is_present cmp es k ≡ true → place cmp es k < length es
    place-present h = go es (place cmp es k) h
      where
        go : (xs : List (K × X)) (i : ℕ) → is_some (option_and_then (λ e. if is_eq (cmp e.0 k) then Some e else None) (slice_get xs i)) ≡ true → i < length xs
        go [] i h = absurd (cc)
        go (x ∷ xs) zero h = omega arith
        go (x ∷ xs) (suc i) h = let r = go xs i h in omega (arith, r)

    -- an insertion at a present key writes its value
    pub put-present : (v : X) → is_present cmp es k ≡ true → put cmp es k v ≡ with_value es (place cmp es k) v
    put-present v h = λ j. if h j then with_value es (place cmp es k) v else insert es (place cmp es k) (k, v)

    -- a removal at a present key removes its entry
    pub cut-present : is_present cmp es k ≡ true → cut cmp es k ≡ remove es (place cmp es k)
    cut-present h = λ j. if h j then remove es (place cmp es k) else es

    -- a removal at an absent key changes nothing
    pub cut-absent : is_present cmp es k ≡ false → cut cmp es k ≡ es
    cut-absent h = λ j. if h j then remove es (place cmp es k) else es

    -- an insertion at an absent key inserts an entry at its place
    pub put-absent : (v : X) → is_present cmp es k ≡ false → put cmp es k v ≡ insert es (place cmp es k) (k, v)
    put-absent v h = λ j. if h j then with_value es (place cmp es k) v else insert es (place cmp es k) (k, v)
