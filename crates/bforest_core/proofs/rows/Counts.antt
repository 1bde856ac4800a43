-- Counting numbers: lists with the same counts, and the numbers that the slots of a table name.
use Rattle.bforest_core.proofs.Words.{around, last_taken, ◌≡◌, ℕ, zero, suc, ◌+◌, ◌≤◌, ◌<◌, ◌↔◌, IsTrue, nat_eq, nat_lt, if◌then◌else◌, true, false, List, []}
use Rattle.bforest_core.proofs.Words.{◌∷◌, ◌++◌, length, take, drop, slice_get, Some, None, refl, sym, ap, ◌∙◌, inl, inr, length-append, arith, flat_map}
use Rattle.bforest_core.proofs.Words.{list_any, sum_by, sum_by-cons, sum_by-append, take_all, flat_map-append, cases_lt, eqb_tells, slice_get-get_or, Content}
use Rattle.bforest_core.proofs.{Words.{Free, children_of, count, slot}, table.Tables.{count-append, count-same, count-other}}

-- how often a number occurs among those below another
abbrev pub once_below : ℕ → ℕ → ℕ
once_below m n = if nat_lt m n then 1 else 0

-- a number below n occurs once
pub below-one : (m n : ℕ) → m < n → once_below m n ≡ 1
below-one m n low = let e : nat_lt m n ≡ true = grind arith in rw e refl

-- a number from n on does not occur
pub past-none : (m n : ℕ) → n ≤ m → once_below m n ≡ 0
past-none m n past = let e : nat_lt m n ≡ false = grind arith in rw e refl

-- no number occurs twice
pub at-most-one : (m n : ℕ) → once_below m n ≤ 1
at-most-one m n = elim (cases_lt m n) [ inl low ↦ omega (arith, below-one) | inr past ↦ omega (arith, past-none m n past) ]

-- a list is cut at a number that occurs in it
pub standing : (n ms : _) → 0 < count n ms → (p : _) × (q : _) × (ms ≡ p ++ n ∷ q)
standing n [] some = absurd (omega arith)
standing n (m ∷ ms) some = elim (eqb_tells m n) [
  | inl w ↦ ([], ms, ap (λ z. z ∷ ms) w.1)
  | inr w ↦ (let r = standing n ms (omega (arith, count-other n m ms w.1)) in (m ∷ r.0, r.1, ap (λ z. m ∷ z) r.2))
]

-- a number occurs exactly where a search finds it
pub found-counts : (n ms : _) → IsTrue (list_any (λ m. nat_eq m n) ms) ↔ (0 < count n ms)
found-counts n [] = (λ found. absurd cc, λ some. absurd (omega arith))
found-counts n (m ∷ ms) = elim (eqb_tells m n) [
  | inl w ↦ (let e = w.0 in (λ found. omega (arith, ap (λ z. count z (m ∷ ms)) w.1, count-same m ms), λ some. rw e refl))
  | inr w ↦ (let e = w.0 in let r = found-counts n ms in (λ found. omega (arith, count-other n m ms w.1, r.0 (rw e at found)), λ some. rw e (r.1 (omega (arith, count-other n m ms w.1)))))
]

-- lists with the same counts have the same sum
pub sum-same : (f : ℕ → ℕ) (xs ys : _) → ((n : ℕ) → count n xs ≡ count n ys) → sum_by f xs ≡ sum_by f ys
sum-same f [] [] same = refl
sum-same f [] (y ∷ ys) same = absurd (omega (arith, same y, count-same y ys))
sum-same f (x ∷ xs) ys same = let s = standing x ys (omega (arith, same x, count-same x xs)) in
    let less : (n : ℕ) → count n xs ≡ count n (s.0 ++ s.1) = λ n. (let a = ap (count n) s.2 in omega (arith, same n, count-append)) in
    omega (arith, sum-same f xs (s.0 ++ s.1) less, ap (sum_by f) s.2, sum_by-cons f x xs, sum_by-append f s.0 (x ∷ s.1), sum_by-append f s.0 s.1, sum_by-cons f x s.1)

-- how often a number is named by the numbers of a list
count-named : (f : ℕ → List ℕ) (m xs : _) → count m (flat_map f xs) ≡ sum_by (λ x. count m (f x)) xs
count-named f m [] = refl
count-named f m (x ∷ xs) = omega (arith, count-append, count-named f m xs, sum_by-cons (λ x. count m (f x)) x xs)

pub named-same : (f : ℕ → List ℕ) (xs ys : _) → ((n : ℕ) → count n xs ≡ count n ys) → (m : ℕ) → count m (flat_map f xs) ≡ count m (flat_map f ys)
named-same f xs ys same m = omega (arith, count-named f m xs, count-named f m ys, sum-same (λ x. count m (f x)) xs ys same)

-- the numbers below n
abbrev pub upto : ℕ → List ℕ
upto zero = []
upto (suc n) = upto n ++ n ∷ []

-- each number below n occurs once
pub count-upto : (m n : ℕ) → count m (upto n) ≡ once_below m n
count-upto m zero = sym (past-none m zero (omega arith))
count-upto m (suc n) = let a = count-append m (upto n) (n ∷ []) in let ih = count-upto m n in
    elim (eqb_tells n m) [
      | inl w ↦ (let e = ap (λ z. count z (n ∷ [])) w.1 in omega (arith, count-same n [], past-none m n (omega (arith, w.1)), below-one))
      | inr w ↦ elim (cases_lt m n) [
        | inl low ↦ omega (arith, count-other m n [] w.1, below-one)
        | inr past ↦ omega (arith, count-other m n [] w.1, past-none m n past, past-none m (suc n) (elim (eqb_tells n m) [ inl v ↦ absurd (w.1 v.1) | inr v ↦ (let f = w.1 in grind (arith, f)) ]))
      ]
    ]

-- there are n numbers below n
length-upto : (n : ℕ) → length (upto n) ≡ n
length-upto zero = refl
length-upto (suc n) = omega (arith, length-append (upto n) (n ∷ []), length-upto n)

-- a list whose counts are at most those of another is not longer
no-longer : (xs ys : _) → ((n : ℕ) → count n xs ≤ count n ys) → length xs ≤ length ys
no-longer [] ys le = omega arith
no-longer (x ∷ xs) ys le = let s = standing x ys (omega (arith, le x, count-same x xs)) in
    let less : (n : ℕ) → count n xs ≤ count n (s.0 ++ s.1) = λ n. (let a = ap (count n) s.2 in omega (arith, le n, count-append)) in
    omega (arith, no-longer xs (s.0 ++ s.1) less, ap length s.2, length-append s.0 (x ∷ s.1), length-append s.0 s.1)

-- a list of numbers below n, none of which occurs twice, has at most n elements
pub few-below : (n xs : _) → ((m : ℕ) → count m xs ≤ once_below m n) → length xs ≤ n
few-below n xs once = omega (arith, no-longer xs (upto n) (λ m. omega (arith, once m, count-upto)), length-upto n)

module _ {K V : Type 0} where
  -- the numbers that the slots of these numbers name
  abbrev pub named_by : List (Content K V) → List ℕ → List ℕ
  named_by slots ms = flat_map (λ m. children_of (slot slots m)) ms

  -- the first `k + 1` slots name what the first `k` name, and the children of the next
  pub named-more : (slots : List (Content K V)) (k : ℕ) {content : Content K V} (m : ℕ) → slice_get slots k ≡ Some content → count m (flat_map children_of (take (suc k) slots)) ≡ count m (flat_map children_of (take k slots)) + count m (children_of content)
  named-more slots k {content} m found =
      let a = ap (λ z. count m (flat_map children_of z)) (last_taken slots k content found) ∙ ap (count m) (flat_map-append children_of (take k slots) (content ∷ [])) in
      omega (arith, count-append)

  -- whatever a slot names, the slots name
  pub named-slot : (slots : List (Content K V)) (k : ℕ) {content : Content K V} (m : ℕ) → slice_get slots k ≡ Some content → count m (children_of content) ≤ count m (flat_map children_of slots)
  named-slot slots k {content} m found = let rest = drop (suc k) slots in
      let a = ap (λ z. count m (flat_map children_of z)) (sym (around slots k content found)) ∙ ap (count m) (flat_map-append children_of (take k slots) (content ∷ rest)) in
      omega (arith, count-append)

  -- the first `n` slots name what the numbers below `n` name
  named-upto : (slots n : _) → n ≤ length slots → named_by slots (upto n) ≡ flat_map children_of (take n slots)
  named-upto slots zero low = refl
  named-upto slots (suc n) low = let more = last_taken slots n (slot slots n) (slice_get-get_or slots n (Free None) (omega arith)) in
      cc (flat_map-append (λ m. children_of (slot slots m)) (upto n) (n ∷ []), named-upto slots n (omega arith), flat_map-append children_of (take n slots) (slot slots n ∷ []))

  -- a list in which each slot occurs once names what all slots name
  pub all-named : (slots ms : _) → ((n : ℕ) → count n ms ≡ once_below n (length slots)) → (m : ℕ) → count m (flat_map children_of slots) ≡ count m (named_by slots ms)
  all-named slots ms once m =
      let a = named-same (λ k. children_of (slot slots k)) ms (upto (length slots)) (λ n. once n ∙ sym (count-upto n (length slots))) m in
      let b = named-upto slots (length slots) (omega arith) ∙ ap (flat_map children_of) (take_all (length slots) slots (omega arith)) in sym (cc)
