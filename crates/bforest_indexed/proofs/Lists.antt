-- The lists of all indices, as one list of lists.
use Rattle.bforest.specs.Forest.{list_of, sizes_of}
use Rattle.bforest_indexed.specs.Indexed.{ChangesAt, Indexed, KeepsAll, count, entries, lists, node_sizes, table}
use Rattle.std.proofs.Common.{List, None, Option, [], ap, arith, get_or, inl, inr, length, map, refl, replicate, slice_set, subst, suc, sym, zero, ◌<◌, ◌∙◌, ◌≡◌, ◌≢◌, ◌∷◌, ℕ}
use Rattle.std.proofs.lemmas.Bool.Decides.{eqb_tells}
use Rattle.std.proofs.lemmas.List.{get_or-set_other, get_or-set_same, length-set}

module _ {A : Type 0} (d : A) where
  -- two lists of one length are equal where each index has the same
  same-by-index : (xs ys : List A) → length xs ≡ length ys → ((i : ℕ) → get_or xs i d ≡ get_or ys i d) → xs ≡ ys
  same-by-index [] [] len same = refl
  same-by-index [] (y ∷ ys) len same = absurd (omega (arith, len))
  same-by-index (x ∷ xs) [] len same = absurd (omega (arith, len))
  same-by-index (x ∷ xs) (y ∷ ys) len same = λ j. same 0 j ∷ same-by-index xs ys (omega (arith, len)) (λ i. same (suc i)) j

  -- a list that differs at one index alone
  set-by-index : (xs ys : List A) (i : ℕ) (x : A) → length ys ≡ length xs → i < length xs → get_or ys i d ≡ x
      → ((j : ℕ) → j ≢ i → get_or ys j d ≡ get_or xs j d) → ys ≡ slice_set xs i x
  set-by-index xs ys i x len within here there = same-by-index ys (slice_set xs i x) (len ∙ sym (length-set xs i x)) each
    where
      each : (j : ℕ) → get_or ys j d ≡ get_or (slice_set xs i x) j d
      each j = elim (eqb_tells j i) [
        | inl w ↦ subst (λ q. get_or ys q d ≡ get_or (slice_set xs i x) q d) (sym w.1) (here ∙ sym (get_or-set_same xs i x d within))
        | inr w ↦ there j w.1 ∙ sym (get_or-set_other xs i j x d w.1)
      ]

  repeated : (count i : ℕ) → get_or (replicate count d) i d ≡ d
  repeated zero i = refl
  repeated (suc count) zero = refl
  repeated (suc count) (suc i) = repeated count i

-- what a function answers at an index
get_or-map : {A B : Type 0} (f : A → B) (d : A) (xs : List A) (i : ℕ) → get_or (map f xs) i (f d) ≡ f (get_or xs i d)
get_or-map f d [] i = refl
get_or-map f d (x ∷ xs) zero = refl
get_or-map f d (x ∷ xs) (suc i) = get_or-map f d xs i

length-map : {A B : Type 0} (f : A → B) (xs : List A) → length (map f xs) ≡ length xs
length-map f [] = refl
length-map f (x ∷ xs) = ap suc (length-map f xs)

length-repeated : {A : Type 0} (d : A) (count : ℕ) → length (replicate count d) ≡ count
length-repeated d zero = refl
length-repeated d (suc count) = ap suc (length-repeated d count)

module _ {K X C : Type 0} where
  pub length-lists : (m : Indexed K X C) → length (lists m) ≡ count m
  length-lists m = length-map (list_of (table m)) m.handles

  pub lists-at : (m : Indexed K X C) (i : ℕ) → get_or (lists m) i [] ≡ entries m i
  lists-at m i = get_or-map (list_of (table m)) None m.handles i

  -- one list changed
  pub lists-changed : {m m' : Indexed K X C} {i : ℕ} {es : List (K × X)} → i < count m → ChangesAt m i m' → entries m' i ≡ es → lists m' ≡ slice_set (lists m) i es
  lists-changed {m} {m'} {i} {es} within changes is = set-by-index [] (lists m) (lists m') i es
      (length-lists m' ∙ changes.same_count ∙ sym (length-lists m)) (subst (λ n. i < n) (sym (length-lists m)) within) (lists-at m' i ∙ is)
      (λ j ne. lists-at m' j ∙ changes.others j ne ∙ sym (lists-at m j))

  -- no list changed
  pub lists-kept : {m m' : Indexed K X C} → KeepsAll m m' → count m' ≡ count m → lists m' ≡ lists m
  lists-kept {m} {m'} keeps same = same-by-index [] (lists m') (lists m) (length-lists m' ∙ same ∙ sym (length-lists m))
      (λ i. lists-at m' i ∙ keeps.lists i ∙ sym (lists-at m i))

  -- each list is empty
  pub lists-empty : (m : Indexed K X C) → ((i : ℕ) → entries m i ≡ []) → lists m ≡ replicate (count m) []
  lists-empty m none = same-by-index [] (lists m) (replicate (count m) []) (length-lists m ∙ sym (length-repeated [] (count m)))
      (λ i. lists-at m i ∙ none i ∙ sym (repeated [] (count m) i))

  -- an index past the end has an empty list
  pub past-end : (m : Indexed K X C) (i : ℕ) → count m ≡ 0 → entries m i ≡ []
  past-end m i none = sym (lists-at m i) ∙ ap (λ ls. get_or ls i []) (no-lists (lists m) (length-lists m ∙ none))
    where
      no-lists : (ls : List (List (K × X))) → length ls ≡ 0 → ls ≡ []
      no-lists [] is = refl
      no-lists (l ∷ ls) is = absurd (omega (arith, is))

  -- an index past the end has no node
  pub sizes-past-end : (m : Indexed K X C) (i : ℕ) → count m ≡ 0 → node_sizes m i ≡ []
  sizes-past-end m i none = ap (sizes_of (table m)) (no-handle m.handles none)
    where
      no-handle : (hs : List (Option ℕ)) → length hs ≡ 0 → get_or hs i None ≡ None
      no-handle [] is = refl
      no-handle (h ∷ hs) is = absurd (omega (arith, is))
