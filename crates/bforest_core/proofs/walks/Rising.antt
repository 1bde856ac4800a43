-- Increasing lists of entries, cut in parts, and the place of a key in them.
use Rattle.bforest_core.proofs.Words.{count_by-le-length, all_greater_behind, count_up_to-no, count_up_to-none, count_up_to-yes, place-later, place-here, ◌≡◌}
use Rattle.bforest_core.proofs.Words.{◌≢◌, ℕ, zero, suc, ◌+◌, ◌≤◌, false, cond, if◌then◌else◌, List, [], ◌∷◌, ◌++◌, length, slice_get, Option, Some, None}
use Rattle.bforest_core.proofs.Words.{refl, sym, ap, ◌∙◌, arith, sum_by-append, alike_right, IsTotalOrder, IsStrictlySortedBy, AllByRecursion, is_some}
use Rattle.bforest_core.proofs.Words.{option_and_then, is_eq, is_gt, is_lt, IsIncreasing, place, entry_for, is_present, child_index}
use Rattle.bforest_core.proofs.table.Lists.{slice_get-append-add}
use Rattle.std.specs.{Map.keys_of, declared.cmp.Ordering.{Ordering, TheVariants.{Less, Equal, Greater}}}

-- a property of all keys of a list holds in each of its two parts
pub all_split : {K X : Type 0} (P : K → Type 0) (xs ys : List (K × X)) → AllByRecursion P (keys_of (xs ++ ys)) → AllByRecursion P (keys_of xs) × AllByRecursion P (keys_of ys)
all_split P [] ys h = (tt, h)
all_split P (x ∷ xs) ys h = let r = all_split P xs ys h.1 in ((h.0, r.0), r.1)

module _ {K : Type 0} {cmp : K → K → Ordering} (o : IsTotalOrder cmp) where
  -- a key less than one that is not greater than k is less than k
  pub less_from : (p q k : K) → cmp p q ≡ Less → cmp q k ≢ Greater → cmp p k ≡ Less
  less_from p q k l ng = go _ refl
    where
      go : (r : Ordering) → cmp q k ≡ r → cmp p k ≡ Less
      go Less t = o.trans p q k l t
      go Equal t = sym (alike_right o q k p t) ∙ l
      go Greater t = absurd (ng t)

  -- keys less than one that is not greater than k are less than k
  pub all_less : (q k : K) (ps : List K) → AllByRecursion (λ p. cmp p q ≡ Less) ps → cmp q k ≢ Greater → AllByRecursion (λ p. cmp p k ≡ Less) ps
  all_less q k [] h ng = tt
  all_less q k (p ∷ ps) h ng = (less_from p q k h.0 ng, all_less q k ps h.1 ng)

  module _ {X : Type 0} where
    -- both parts of an increasing list increase
    pub increasing_split : (xs ys : List (K × X)) → IsIncreasing cmp (xs ++ ys) → IsIncreasing cmp xs × IsIncreasing cmp ys
    unfolding IsStrictlySortedBy
    increasing_split [] ys h = (tt, h)
    increasing_split (x ∷ xs) ys h = let r = increasing_split xs ys h.1 in ((((all_split _ _ _ h.0).0, r.0)), r.1)

    pub all_before : (xs : List (K × X)) (y ys : _) → IsIncreasing cmp (xs ++ y ∷ ys) → AllByRecursion (λ k. cmp k y.0 ≡ Less) (keys_of xs)
    unfolding IsStrictlySortedBy
    all_before [] y ys h = tt
    all_before (x ∷ xs) y ys h = ((all_split (λ k. cmp x.0 k ≡ Less) xs (y ∷ ys) h.0).1.0, all_before xs y ys h.1)

    pub increasing_rest : (x : K × X) (xs : _) → IsIncreasing cmp (x ∷ xs) → IsIncreasing cmp xs
    unfolding IsStrictlySortedBy
    increasing_rest x xs h = h.1

    -- the place of a key in two parts is the sum of its places
    place-append : (xs ys : List (K × X)) (k : K) → place cmp (xs ++ ys) k ≡ place cmp xs k + place cmp ys k
    place-append xs ys k = sum_by-append (λ y. cond (is_lt (cmp y.0 k)) 1 0) xs ys

    -- the place of a key after a list of lesser keys is its end
    place_all : (xs : List (K × X)) (k : K) → AllByRecursion (λ p. cmp p k ≡ Less) (keys_of xs) → place cmp xs k ≡ length xs
    place_all [] k h = refl
    place_all (x ∷ xs) k h = place-later cmp o x xs k h.0 ∙ ap suc (place_all xs k h.1)

    -- the place of a key before a list of greater keys is 0
    place_none : (xs : List (K × X)) (k : K) → IsIncreasing cmp xs → AllByRecursion (λ p. cmp p k ≡ Greater) (keys_of xs) → place cmp xs k ≡ 0
    place_none [] k i h = refl
    place_none (x ∷ xs) k i h = place-here cmp o x xs k i (ap is_lt h.0)

    -- the place of a key is at most the length
    pub place-le : (xs : List (K × X)) (k : K) → place cmp xs k ≤ length xs
    place-le xs k = count_by-le-length (λ e. is_lt (cmp e.0 k)) xs

    -- the entry that a search finds at an index, if its key compares equal
    abbrev pub test_at : List (K × X) → K → ℕ → Option (K × X)
    test_at es k i = option_and_then (λ e. if is_eq (cmp e.0 k) then Some e else None) (slice_get es i)

    test_past : (ys : List (K × X)) (k : K) → AllByRecursion (λ p. cmp p k ≡ Greater) (keys_of ys) → test_at ys k 0 ≡ None
    test_past [] k h = refl
    test_past (y ∷ ys) k h = cc

    test_front : (xs ys : List (K × X)) (k i : _) → i ≤ length xs → AllByRecursion (λ p. cmp p k ≡ Greater) (keys_of ys) → test_at (xs ++ ys) k i ≡ test_at xs k i
    test_front [] ys k zero le h = test_past ys k h
    test_front [] ys k (suc i) le h = absurd (omega arith)
    test_front (x ∷ xs) ys k zero le h = refl
    test_front (x ∷ xs) ys k (suc i) le h = test_front xs ys k i (omega arith) h

    -- a list in three parts: the keys of the first are less, and those of the last greater
    module _ (xs es ys : List (K × X)) (k : K) (increasing : IsIncreasing cmp ys) (low : AllByRecursion (λ p. cmp p k ≡ Less) (keys_of xs)) (high : AllByRecursion (λ p. cmp p k ≡ Greater) (keys_of ys)) where
      pub place_between : place cmp (xs ++ (es ++ ys)) k ≡ length xs + place cmp es k
      place_between = omega (arith, place-append xs (es ++ ys) k, place-append es ys k, place_all xs k low, place_none ys k increasing high)

      pub entry_between : entry_for cmp (xs ++ (es ++ ys)) k ≡ entry_for cmp es k
      entry_between = cc (place_between, slice_get-append-add xs (es ++ ys) (place cmp es k), test_front es ys k (place cmp es k) (place-le es k) high)

    -- where the first key is not greater, the place of an absent key is not 0
    pub first_passed : (e : K × X) (es k : _) → IsIncreasing cmp (e ∷ es) → cmp e.0 k ≢ Greater → is_present cmp (e ∷ es) k ≡ false → place cmp (e ∷ es) k ≢ 0
    first_passed e es k i ng absent = go _ refl
      where
        go : (r : Ordering) → cmp e.0 k ≡ r → place cmp (e ∷ es) k ≢ 0
        go Less t = λ z. omega (arith, place-later cmp o e es k t)
        go Equal t = λ z.
            let bad = sym (ap (λ n. is_some (test_at (e ∷ es) k n)) z ∙ ap (λ r. is_some (if is_eq r then Some e else None)) t) ∙ absent in absurd (cc)
        go Greater t = absurd (ng t)

  -- all keys of an increasing list are greater where the first is
  pub all_greater : {X : Type 0} (ys : List (K × X)) (k : K) → IsIncreasing cmp ys → ((y : K × X) (c : _) → ys ≡ y ∷ c → cmp y.0 k ≡ Greater) → AllByRecursion (λ p. cmp p k ≡ Greater) (keys_of ys)
  unfolding IsStrictlySortedBy
  all_greater [] k i h = tt
  all_greater (y ∷ ys) k i h = (h y ys refl, all_greater_behind _ k o _ _ i.0 (ap is_lt (h y ys refl)))

  -- where a search among separators divides the entries
  pub record Sides {X : Type 0} (es : List (K × X)) (k : K) (i : ℕ) : Type 0 where
    pub l : List (K × X)
    pub r : List (K × X)
    pub es_is : es ≡ l ++ r
    pub i_is : length l ≡ i
    pub low : AllByRecursion (λ p. cmp p k ≢ Greater) (keys_of l)
    pub high : AllByRecursion (λ p. cmp p k ≡ Greater) (keys_of r)

  pub sides : {X : Type 0} (es : List (K × X)) (k : K) → IsIncreasing cmp es → Sides es k (child_index cmp (keys_of es) k)
  unfolding IsStrictlySortedBy
  sides [] k h = record { l = []; r = []; es_is = refl; i_is = refl; low = tt; high = tt }
  sides (e ∷ es) k h = go _ refl (sides es k h.1)
    where
      ks : List K
      ks = keys_of es

      behind : is_lt (cmp e.0 k) ≡ false → AllByRecursion (λ p. cmp p k ≡ Greater) ks
      behind t = all_greater_behind cmp k o e.0 ks h.0 t

      go : (r : Ordering) → cmp e.0 k ≡ r → Sides es k (child_index cmp ks k) → Sides (e ∷ es) k (child_index cmp (e.0 ∷ ks) k)
      go Less t s = record { l = e ∷ s.l; r = s.r; es_is = cc; i_is = cc (count_up_to-yes cmp e.0 ks k (ap is_gt t)); low = ((λ g. let bad = sym t ∙ g in absurd cc), s.low); high = s.high }
      go Equal t s = let one = count_up_to-yes cmp e.0 ks k (ap is_gt t) ∙ ap suc (count_up_to-none cmp k ks (behind (ap is_lt t))) in
          record { l = e ∷ []; r = es; es_is = refl; i_is = sym one; low = ((λ g. let bad = sym t ∙ g in absurd cc), tt); high = behind (ap is_lt t) }
      go Greater t s = let none = count_up_to-no cmp e.0 ks k (ap is_gt t) ∙ count_up_to-none cmp k ks (behind (ap is_lt t)) in
          record { l = []; r = e ∷ es; es_is = refl; i_is = sym none; low = tt; high = (t, behind (ap is_lt t)) }
