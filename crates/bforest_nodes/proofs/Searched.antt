-- The results of a binary search among increasing keys.
use Rattle.std.proofs.Common.{◌≡◌, ℕ, zero, suc, ◌+◌, ◌<◌, ◌≤◌, Bool, true, false, cond, not, List, [], ◌∷◌, length, take, refl, sym, ap, subst, ◌∙◌, arith, Result, Ok, Err, get_or, ⊎_elim, if◌then◌else◌}
use borrow.Author.Tests.{ltb-true, ltb-false}
use lib.Dec.{ltb}
use Rattle.std.specs.Option.{option_map_or}
use Rattle.std.proofs.lemmas.Bool.{cases_Bool}
use Rattle.std.proofs.lemmas.List.{get_or_default, take_all}
use Rattle.std.proofs.lemmas.Option.{slice_get-get_or, slice_get_past}
use Rattle.std.proofs.lemmas.List.Sorted.{searchable_from_sorted}
use Rattle.std.specs.declared.cmp.Ordering.{Ordering}
use Rattle.std.specs.declared.cmp.Ordering.TheVariants.{Less, Equal, Greater}
use Rattle.std.specs.Ordering.{is_lt, is_eq, is_gt, ordering_reverse, ordering_index}
use Rattle.std.specs.List.{AllByRecursion}
use Rattle.std.specs.List.Sorted.{IsStrictlySortedBy, IsBinarySearchResult, IsSearchInRange, IsNonDecreasingBy}
use Rattle.std.specs.Cmp.{IsTotalOrder}
use Rattle.std.proofs.lemmas.Cmp.{alike_right}
use Rattle.std.proofs.lemmas.List.Sums.{sum_by-cons}
use Rattle.std.proofs.lemmas.Map.Keys.{Less-from_sorted}
use Rattle.bforest_nodes.specs.Search.{count_less, count_up_to, is_equal_at, search_of}

module _ {K : Type 0} (cmp : K → K → Ordering) where
  -- a first key that is less counts
  pub count_less-yes : (x : K) (xs : List K) (k : K) → is_lt (cmp x k) ≡ true → count_less cmp (x ∷ xs) k ≡ suc (count_less cmp xs k)
  count_less-yes x xs k h = sum_by-cons (λ y. cond (is_lt (cmp y k)) 1 0) x xs ∙ ap (λ b. cond b 1 0 + count_less cmp xs k) h ∙ omega arith

  -- a first key that is not less does not count
  pub count_less-no : (x : K) (xs : List K) (k : K) → is_lt (cmp x k) ≡ false → count_less cmp (x ∷ xs) k ≡ count_less cmp xs k
  count_less-no x xs k h = sum_by-cons (λ y. cond (is_lt (cmp y k)) 1 0) x xs ∙ ap (λ b. cond b 1 0 + count_less cmp xs k) h ∙ omega arith

  -- where the first i keys are less and the others are not, i keys are less
  pub count_less-from_parts : (ks : List K) (k : K) (i : ℕ) → i ≤ length ks → ((j : ℕ) (d : K) → j < i → is_lt (cmp (get_or ks j d) k) ≡ true) → ((j : ℕ) (d : K) → i ≤ j → j < length ks → is_lt (cmp (get_or ks j d) k) ≡ false) → count_less cmp ks k ≡ i
  count_less-from_parts [] k i le low high = omega arith
  count_less-from_parts (x ∷ xs) k zero le low high = count_less-no x xs k (high 0 x (omega arith) (omega arith)) ∙ count_less-from_parts xs k zero (omega arith) (λ j d h. absurd (omega arith)) (λ j d h g. high (suc j) d (omega arith) (omega arith))
  count_less-from_parts (x ∷ xs) k (suc i) le low high = count_less-yes x xs k (low 0 x (omega arith)) ∙ ap suc (count_less-from_parts xs k i (omega arith) (λ j d h. low (suc j) d (omega arith)) (λ j d h g. high (suc j) d (omega arith) (omega arith)))

  module _ (o : IsTotalOrder cmp) (ks : List K) (k : K) (sorted : IsStrictlySortedBy cmp ks) where
    -- all keys before one that is not greater are less
    pub before : (i j : ℕ) (d : K) → j < i → i < length ks → is_gt (cmp (get_or ks i d) k) ≡ false → is_lt (cmp (get_or ks j d) k) ≡ true
    before i j d lt within h = go (cmp (get_or ks i d) k) refl h
      where
        go : (r : Ordering) → cmp (get_or ks i d) k ≡ r → is_gt r ≡ false → is_lt (cmp (get_or ks j d) k) ≡ true
        go Less e h = ap is_lt (o.trans _ _ _ (Less-from_sorted cmp ks j i d sorted lt within) e)
        go Equal e h = ap is_lt (sym (alike_right o _ _ (get_or ks j d) e) ∙ Less-from_sorted cmp ks j i d sorted lt within)
        go Greater e h = absurd (cc)

    -- no key after one that is not less is less
    after : (i j : ℕ) (d : K) → i < j → j < length ks → is_lt (cmp (get_or ks i d) k) ≡ false → is_lt (cmp (get_or ks j d) k) ≡ false
    after i j d lt within h = go (cmp (get_or ks j d) k) refl
      where
        go : (r : Ordering) → cmp (get_or ks j d) k ≡ r → is_lt (cmp (get_or ks j d) k) ≡ false
        go Less e = let bad : cmp (get_or ks i d) k ≡ Less = o.trans _ _ _ (Less-from_sorted cmp ks i j d sorted lt within) e in let no : is_lt (cmp (get_or ks i d) k) ≡ true = ap is_lt bad in absurd (cc)
        go Equal e = ap is_lt e
        go Greater e = ap is_lt e

    -- no key from one that is not less on is less
    pub not_before : (i j : ℕ) (d : K) → i ≤ j → j < length ks → is_lt (cmp (get_or ks i d) k) ≡ false → is_lt (cmp (get_or ks j d) k) ≡ false
    not_before i j d le within h = ⊎_elim
        (λ t. after i j d (ltb-true i j t) within h)
        (λ t. let e : i ≡ j = omega (arith, ltb-false i j t) in subst (λ n. is_lt (cmp (get_or ks n d) k) ≡ false) e h)
        (cases_Bool (ltb i j))

    -- the comparisons do not decrease along the keys
    rises : IsNonDecreasingBy (λ y. ordering_index (cmp y k)) ks
    rises = searchable_from_sorted o (λ y. y) ks k (λ j d low within. let e = Less-from_sorted cmp ks j (j + 1) d sorted (omega arith) within in ap is_lt (o.antisymm _ _ ∙ ap ordering_reverse e))

    -- the count of lesser keys and the test of the next key make the answer
    pub by_test : (i : ℕ) (b : Bool) → count_less cmp ks k ≡ i → is_equal_at cmp ks k i ≡ b → search_of cmp ks k ≡ (if b then Ok i else Err i)
    by_test i b e h = λ j. if both j then Ok (e j) else Err (e j)
      where
        both : is_equal_at cmp ks k (count_less cmp ks k) ≡ b
        both = ap (is_equal_at cmp ks k) e ∙ h

    -- the test whether the key at an index within the list compares equal
    pub test_at : (i : ℕ) (b : Bool) → i < length ks → is_eq (cmp (get_or ks i k) k) ≡ b → is_equal_at cmp ks k i ≡ b
    test_at i b within h = ap (λ t. option_map_or (λ x. is_eq (cmp x k)) t false) (slice_get-get_or ks i k within) ∙ h

    -- the answer of a binary search
    pub searched : (r : Result ℕ ℕ) → IsSearchInRange r (length ks) → IsBinarySearchResult (λ y. cmp y k) ks r → r ≡ search_of cmp ks k
    searched (Ok i) within h =
        let count : count_less cmp ks k ≡ i = count_less-from_parts ks k i (omega arith)
        (λ j d lt. before i j d lt within (ap is_gt (h d)))
        (λ j d le in_list. not_before i j d le in_list (ap is_lt (h d))) in
        sym (by_test i true count (test_at i true within (ap is_eq (h k))))
    searched (Err i) within h =
        let p = h rises in
        let count : count_less cmp ks k ≡ i = count_less-from_parts ks k i within
        (λ j d lt. ap is_lt (p.0 j d (omega arith) lt))
        (λ j d le in_list. ap is_lt (p.1 j d le in_list)) in
        sym (by_test i false count (⊎_elim
        (λ t. test_at i false (ltb-true i (length ks) t) (ap is_eq (p.1 i k (omega arith) (ltb-true i (length ks) t))))
        (λ t. ap (λ o. option_map_or (λ x. is_eq (cmp x k)) o false) (slice_get_past ks i (ltb-false i (length ks) t)))
        (cases_Bool (ltb i (length ks)))))

    -- a scan in which the first i keys are less
    module _ (i : ℕ) (low : (j : ℕ) (d : K) → j < i → is_lt (cmp (get_or ks j d) k) ≡ true) where
      stopped_at : i ≤ length ks → ((d : K) → i < length ks → is_lt (cmp (get_or ks i d) k) ≡ false) → count_less cmp ks k ≡ i
      stopped_at within here = count_less-from_parts ks k i within low (λ j d le in_list. not_before i j d le in_list (here d (omega arith)))

      -- the search stopped at an equal key
      pub stopped-equal : (x : K) → i < length ks → x ≡ get_or ks i x → cmp x k ≡ Equal → Ok i ≡ search_of cmp ks k
      stopped-equal x within read e =
          let same : (d : K) → cmp (get_or ks i d) k ≡ Equal = λ d. ap (λ y. cmp y k) (get_or_default ks i d x within ∙ sym read) ∙ e in
          sym (by_test i true (stopped_at (omega arith) (λ d _. ap is_lt (same d))) (test_at i true within (ap is_eq (same k))))

      -- the search stopped at a greater key
      pub stopped-greater : (x : K) → i < length ks → x ≡ get_or ks i x → cmp x k ≡ Greater → Err i ≡ search_of cmp ks k
      stopped-greater x within read e =
          let more : (d : K) → cmp (get_or ks i d) k ≡ Greater = λ d. ap (λ y. cmp y k) (get_or_default ks i d x within ∙ sym read) ∙ e in
          sym (by_test i false (stopped_at (omega arith) (λ d _. ap is_lt (more d))) (test_at i false within (ap is_eq (more k))))

      -- the search came to the end
      pub stopped-end : i ≡ length ks → Err i ≡ search_of cmp ks k
      stopped-end e = sym (by_test i false (stopped_at (omega (arith, e)) (λ d lt. absurd (omega (arith, e, lt)))) (ap (λ o. option_map_or (λ x. is_eq (cmp x k)) o false) (slice_get_past ks i (omega (arith, e)))))

  -- the answer of a scan of all n keys, from a test of the key after the lesser ones
  module _ (ks : List K) (k : K) (n i : ℕ) (all : length ks ≤ n) (count : i ≡ count_less cmp (take n ks) k) where
    counted : count_less cmp ks k ≡ i
    counted = ap (λ xs. count_less cmp xs k) (sym (take_all n ks all)) ∙ sym count

    pub scanned : (x : K) (b : Bool) → i < length ks → x ≡ get_or ks i x → is_eq (cmp x k) ≡ b → (if b then Ok i else Err i) ≡ search_of cmp ks k
    scanned x b within read test =
        let at : is_equal_at cmp ks k i ≡ b = ap (λ t. option_map_or (λ y. is_eq (cmp y k)) t false) (slice_get-get_or ks i x within) ∙ ap (λ y. is_eq (cmp y k)) (sym read) ∙ test in
        λ j. if (sym (ap (is_equal_at cmp ks k) counted ∙ at) j) then Ok (sym counted j) else Err (sym counted j)

    pub scanned_past : length ks ≤ i → Err i ≡ search_of cmp ks k
    scanned_past past =
        let at : is_equal_at cmp ks k i ≡ false = ap (λ t. option_map_or (λ y. is_eq (cmp y k)) t false) (slice_get_past ks i past) in
        λ j. if (sym (ap (is_equal_at cmp ks k) counted ∙ at) j) then Ok (sym counted j) else Err (sym counted j)

  -- a first key that is not greater counts up to k
  pub count_up_to-yes : (x : K) (xs : List K) (k : K) → is_gt (cmp x k) ≡ false → count_up_to cmp (x ∷ xs) k ≡ suc (count_up_to cmp xs k)
  count_up_to-yes x xs k h = sum_by-cons (λ y. cond (not (is_gt (cmp y k))) 1 0) x xs ∙ ap (λ b. cond (not b) 1 0 + count_up_to cmp xs k) h ∙ omega arith

  -- a first key that is greater does not count up to k
  pub count_up_to-no : (x : K) (xs : List K) (k : K) → is_gt (cmp x k) ≡ true → count_up_to cmp (x ∷ xs) k ≡ count_up_to cmp xs k
  count_up_to-no x xs k h = sum_by-cons (λ y. cond (not (is_gt (cmp y k))) 1 0) x xs ∙ ap (λ b. cond (not b) 1 0 + count_up_to cmp xs k) h ∙ omega arith

  module _ (k : K) where
    -- where all keys are greater none is less
    pub count_less-none : (ks : List K) → AllByRecursion (λ x. cmp x k ≡ Greater) ks → count_less cmp ks k ≡ 0
    count_less-none [] h = refl
    count_less-none (x ∷ ks) h = count_less-no x ks k (ap is_lt h.0) ∙ count_less-none ks h.1

    -- where all keys are greater none counts up to k
    pub count_up_to-none : (ks : List K) → AllByRecursion (λ x. cmp x k ≡ Greater) ks → count_up_to cmp ks k ≡ 0
    count_up_to-none [] h = refl
    count_up_to-none (x ∷ ks) h = count_up_to-no x ks k (ap is_gt h.0) ∙ count_up_to-none ks h.1

    -- the index after the lesser keys and an equal one
    behind : List K → ℕ
    behind ks = if is_equal_at cmp ks k (count_less cmp ks k) then suc (count_less cmp ks k) else count_less cmp ks k

    behind_by : (ks : List K) (n : ℕ) (b : Bool) → count_less cmp ks k ≡ n → is_equal_at cmp ks k n ≡ b → behind ks ≡ (if b then suc n else n)
    unfolding behind
    behind_by ks n b c e = λ j. if ((ap (is_equal_at cmp ks k) c ∙ e) j) then suc (c j) else c j

    module _ (o : IsTotalOrder cmp) where
      -- a key after one that is not less is greater
      pub greater : (x q : K) → cmp x q ≡ Less → is_lt (cmp x k) ≡ false → cmp q k ≡ Greater
      greater x q l h = go (cmp x k) refl
        where
          go : (r : Ordering) → cmp x k ≡ r → cmp q k ≡ Greater
          go Less t = let bad : is_lt (cmp x k) ≡ true = ap is_lt t in absurd (cc)
          go Equal t =
              let less : cmp k q ≡ Less = sym (o.congr x k q t) ∙ l in
              o.antisymm q k ∙ ap ordering_reverse less
          go Greater t =
              let less : cmp k x ≡ Less = o.antisymm k x ∙ ap ordering_reverse t in
              o.antisymm q k ∙ ap ordering_reverse (o.trans k x q less l)

      -- all keys after one that is not less are greater
      pub all_greater_behind : (x : K) (qs : List K) → AllByRecursion (λ q. cmp x q ≡ Less) qs → is_lt (cmp x k) ≡ false → AllByRecursion (λ q. cmp q k ≡ Greater) qs
      all_greater_behind x [] l h = tt
      all_greater_behind x (q ∷ qs) l h = (greater x q l.0 h, all_greater_behind x qs l.1 h)

      -- among increasing keys, those that are not greater are the lesser ones and an equal one
      up_to : (ks : List K) → IsStrictlySortedBy cmp ks → count_up_to cmp ks k ≡ behind ks
      unfolding IsStrictlySortedBy behind
      up_to [] s = refl
      up_to (x ∷ xs) s = go (cmp x k) refl (up_to xs s.1)
        where
          later : (n : ℕ) (b : Bool) → count_less cmp xs k ≡ n → is_equal_at cmp xs k n ≡ b → is_lt (cmp x k) ≡ true → suc (behind xs) ≡ behind (x ∷ xs)
          later n true c e less = ap suc (behind_by xs n true c e) ∙ sym (behind_by (x ∷ xs) (suc n) true (count_less-yes x xs k less ∙ ap suc c) e)
          later n false c e less = ap suc (behind_by xs n false c e) ∙ sym (behind_by (x ∷ xs) (suc n) false (count_less-yes x xs k less ∙ ap suc c) e)

          first : is_lt (cmp x k) ≡ false → count_less cmp (x ∷ xs) k ≡ 0
          first h = count_less-no x xs k h ∙ count_less-none xs (all_greater_behind x xs s.0 h)

          go : (r : Ordering) → cmp x k ≡ r → count_up_to cmp xs k ≡ behind xs → count_up_to cmp (x ∷ xs) k ≡ behind (x ∷ xs)
          go Less t rest = count_up_to-yes x xs k (ap is_gt t) ∙ ap suc rest ∙ later (count_less cmp xs k) (is_equal_at cmp xs k (count_less cmp xs k)) refl refl (ap is_lt t)
          go Equal t rest = count_up_to-yes x xs k (ap is_gt t) ∙ ap suc (count_up_to-none xs (all_greater_behind x xs s.0 (ap is_lt t))) ∙ sym (behind_by (x ∷ xs) 0 true (first (ap is_lt t)) (ap is_eq t))
          go Greater t rest = count_up_to-no x xs k (ap is_gt t) ∙ count_up_to-none xs (all_greater_behind x xs s.0 (ap is_lt t)) ∙ sym (behind_by (x ∷ xs) 0 false (first (ap is_lt t)) (ap is_eq t))

      -- a search that found the key gives the number of keys that are not greater
      pub up_to-found : (ks : List K) (i : ℕ) → IsStrictlySortedBy cmp ks → search_of cmp ks k ≡ Ok i → count_up_to cmp ks k ≡ suc i
      up_to-found ks i s found = go (is_equal_at cmp ks k (count_less cmp ks k)) refl
        where
          go : (b : Bool) → is_equal_at cmp ks k (count_less cmp ks k) ≡ b → count_up_to cmp ks k ≡ suc i
          go true e = let at : count_less cmp ks k ≡ i = cc in up_to ks s ∙ behind_by ks i true at (ap (is_equal_at cmp ks k) (sym at) ∙ e)
          go false e = absurd (cc)

      pub up_to-absent : (ks : List K) (i : ℕ) → IsStrictlySortedBy cmp ks → search_of cmp ks k ≡ Err i → count_up_to cmp ks k ≡ i
      up_to-absent ks i s found = go (is_equal_at cmp ks k (count_less cmp ks k)) refl
        where
          go : (b : Bool) → is_equal_at cmp ks k (count_less cmp ks k) ≡ b → count_up_to cmp ks k ≡ i
          go true e = absurd (cc)
          go false e = let at : count_less cmp ks k ≡ i = cc in up_to ks s ∙ behind_by ks i false at (ap (is_equal_at cmp ks k) (sym at) ∙ e)
