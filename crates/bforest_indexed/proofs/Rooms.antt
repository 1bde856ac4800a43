-- The nodes of all indices' trees, where one of them changed, and where each is small.
use Rattle.bforest.proofs.Growing.{growth-fits}
use Rattle.bforest.specs.Entries.{is_present, place}
use Rattle.bforest.specs.Forest.{Forest, free_of, growth, limit_of, list_of, need, need_of, room_of, sizes_of, slots_of}
use Rattle.bforest.specs.Room.{IsFitAt, IsEnoughFor, node_count}
use Rattle.bforest_indexed.specs.Indexed.{AreKept, HasRoom, Indexed, MayHave, StaysWithin, count, entries, handle, node_sizes, nodes_in_use, table}
use Rattle.std.proofs.Common.{Bool, List, None, Option, [], ap, arith, false, get_or, if◌then◌else◌, length, refl, set, suc, sym, true, zero, ◌%◌, ◌*◌, ◌+◌, ◌<◌, ◌∙◌, ◌∷◌, ◌≡◌, ◌≢◌, ◌≤◌, ℕ}
use Rattle.std.proofs.lemmas.List.Sums.{count_by-le-length, sum_by-cons}
use Rattle.std.proofs.Math.Nat.{mul-le-mul_left}
use Rattle.std.specs.List.{sum_by}
use Rattle.std.specs.Ordering.{is_lt}
use Rattle.std.specs.declared.cmp.Ordering.{Ordering}

module _ {A : Type 0} (g h : A → ℕ) (d : A) where
  -- each element counts as before
  pub sum-same : (xs : List A) → ((j : ℕ) → h (get_or xs j d) ≡ g (get_or xs j d)) → sum_by h xs ≡ sum_by g xs
  sum-same [] same = refl
  sum-same (x ∷ xs) same = omega (arith, sum_by-cons g x xs, sum_by-cons h x xs, same 0, sum-same xs (λ j. same (suc j)))

  -- one element became another, and each other one counts as before
  pub sum-set : (xs : List A) (i : ℕ) (y : A) → i < length xs → ((j : ℕ) → j ≢ i → h (get_or xs j d) ≡ g (get_or xs j d))
      → sum_by h (set xs i y) + g (get_or xs i d) ≡ sum_by g xs + h y
  sum-set [] i y within same = absurd (omega (arith, within))
  sum-set (x ∷ xs) zero y within same = omega (arith, sum_by-cons g x xs, sum_by-cons h y xs, sum-same xs (λ j. same (suc j) (λ e. absurd (omega (arith, e)))))
  sum-set (x ∷ xs) (suc i) y within same =
      let rest = sum-set xs i y (omega (arith, within)) (λ j ne. same (suc j) (λ e. ne (omega (arith, e)))) in
      omega (arith, sum_by-cons g x xs, sum_by-cons h x (set xs i y), same 0 (λ e. absurd (omega (arith, e))), rest)

-- two lists that have the same at each index, where the default counts nothing
pub sum-agree : {A : Type 0} (g : A → ℕ) (d : A) → g d ≡ 0 → (xs ys : List A) → ((j : ℕ) → get_or ys j d ≡ get_or xs j d) → sum_by g ys ≡ sum_by g xs
sum-agree g d none [] [] same = refl
sum-agree g d none [] (y ∷ ys) same =
    omega (arith, sum_by-cons g y ys, ap g (same 0), none, sum-agree g d none [] ys (λ j. same (suc j) ∙ sym (at-end j)))
  where
    at-end : (j : ℕ) → get_or [] j d ≡ get_or [] (suc j) d
    at-end zero = refl
    at-end (suc j) = refl
sum-agree g d none (x ∷ xs) [] same =
    omega (arith, sum_by-cons g x xs, ap g (same 0), none, sum-agree g d none xs [] (λ j. at-end j ∙ same (suc j)))
  where
    at-end : (j : ℕ) → get_or [] j d ≡ get_or [] (suc j) d
    at-end zero = refl
    at-end (suc j) = refl
sum-agree g d none (x ∷ xs) (y ∷ ys) same =
    omega (arith, sum_by-cons g x xs, sum_by-cons g y ys, ap g (same 0), sum-agree g d none xs ys (λ j. same (suc j)))

module _ {A : Type 0} (g : A → ℕ) (d : A) (most : ℕ) where
  pub sum-few : (xs : List A) → ((j : ℕ) → g (get_or xs j d) ≤ most) → sum_by g xs ≤ length xs * most
  sum-few [] each = omega arith
  sum-few (x ∷ xs) each = omega (arith, sum_by-cons g x xs, each 0, sum-few xs (λ j. each (suc j)), more)
    where
      more : suc (length xs) * most ≡ most + length xs * most
      more = omega arith

  -- all elements count at most so much each, and one of them as it does
  sum-beside : (xs : List A) (i : ℕ) → i < length xs → ((j : ℕ) → g (get_or xs j d) ≤ most) → sum_by g xs + most ≤ length xs * most + g (get_or xs i d)
  sum-beside [] i within each = absurd (omega (arith, within))
  sum-beside (x ∷ xs) zero within each = omega (arith, sum_by-cons g x xs, sum-few xs (λ j. each (suc j)), more)
    where
      more : suc (length xs) * most ≡ most + length xs * most
      more = omega arith
  sum-beside (x ∷ xs) (suc i) within each = omega (arith, sum_by-cons g x xs, each 0, sum-beside xs i (omega (arith, within)) (λ j. each (suc j)), more)
    where
      more : suc (length xs) * most ≡ most + length xs * most
      more = omega arith

  -- with what one of them may still take, all count within a bound for as many elements or more
  pub sum-within : (xs : List A) (i more count bound : ℕ) → i < length xs → ((j : ℕ) → g (get_or xs j d) ≤ most) → more + g (get_or xs i d) ≤ most
      → length xs ≤ count → count * most ≤ bound → more + sum_by g xs ≤ bound
  sum-within xs i more count bound within each here few room =
      omega (arith, sum-beside xs i within each, here, mul-le-mul_left most few, room)

module _ {K X : Type 0} (most : ℕ) (odd : most % 2 ≡ 1) (cmp : K → K → Ordering) (f : Forest K X) (h : Option ℕ) (k : K) (fit : IsFitAt most f h) where
  -- an insertion into a list of few entries needs no more nodes than such a list can have
  pub need-within : (most_entries nodes : ℕ) → IsEnoughFor most most_entries nodes → length (list_of f h) ≤ most_entries
      → (is_present cmp (list_of f h) k ≡ false → length (list_of f h) < most_entries) → need_of most cmp f h k + node_count (sizes_of f h) ≤ nodes
  need-within most_entries nodes enough few fewer = by (is_present cmp (list_of f h) k) refl
    where
      needs : Bool → ℕ
      needs t = if t then 0 else need most (place cmp (list_of f h) k) (sizes_of f h)

      by : (t : Bool) → is_present cmp (list_of f h) k ≡ t → need_of most cmp f h k + node_count (sizes_of f h) ≤ nodes
      by true e = omega (arith, ap needs e, enough (length (list_of f h)) (sizes_of f h) few fit)
      by false e =
          let at = place cmp (list_of f h) k in
          let within : place cmp (list_of f h) k ≤ length (list_of f h) = count_by-le-length (λ x. is_lt (cmp x.0 k)) (list_of f h) in
          let grown = growth-fits most odd (place cmp (list_of f h) k) (length (list_of f h)) (sizes_of f h) fit within in
          let bound = enough (suc (length (list_of f h))) (growth most (place cmp (list_of f h) k) (sizes_of f h)) (omega (arith, fewer e)) grown.0 in
          omega (arith, ap needs e, grown.1, bound)

-- an insertion at i, where all lists stay within some numbers
module _ {K X C : Type 0} {most : ℕ} {cmp : K → K → Ordering} {m : Indexed K X C} (a : AreKept most cmp m) (i : ℕ) (within : i < count m) (k : K) (lists most_entries : ℕ) (stays : StaysWithin cmp lists most_entries m i k) where
  in-bound : (nodes bound : ℕ) → IsEnoughFor most most_entries nodes → lists * nodes ≤ bound → need_of most cmp (table m) (handle m i) k + nodes_in_use m ≤ bound
  in-bound nodes bound enough room =
      sum-within (λ (h : Option ℕ). node_count (sizes_of (table m) h)) None nodes m.handles i (need_of most cmp (table m) (handle m i) k) lists bound within
      (λ j. enough (length (entries m j)) (node_sizes m j) (stays.each j) (a.fit j))
      (need-within most a.odd cmp (table m) (handle m i) k (a.fit i) most_entries nodes enough (stays.each i) stays.here) stays.few room

  pub has-room : HasRoom most lists most_entries (table m) → need_of most cmp (table m) (handle m i) k ≤ free_of (table m)
  has-room room = omega (arith, in-bound room.0 (slots_of (table m)) room.1 room.2, a.account)

  pub may-have : MayHave most lists most_entries (table m) → need_of most cmp (table m) (handle m i) k ≤ room_of (table m)
  may-have room = omega (arith, in-bound room.0 (limit_of (table m)) room.1 room.2, a.account)
