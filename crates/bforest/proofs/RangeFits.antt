-- The sizes of a tree's nodes after a range between two bounds went: those of a tree with as many entries less.
use Rattle.bforest.proofs.Growing.{least-half, total, total-cons}
use Rattle.bforest.proofs.Shrinking.{shrink-fits, trimmed-above}
use Rattle.bforest_trees.proofs.ranges.Counted.{index-at, taken-is, whole-at}
use Rattle.bforest_trees.specs.Calls.{leaves_within, removals, without_leaves, without_range}
use Rattle.bforest_core.specs.Sizes.{IsFitFor, IsFitLevel, loss_above, shrink, trimmed, without_next}
use Rattle.std.proofs.Common.{Bool, List, Some, [], ap, arith, false, if◌then◌else◌, length, length-append, nat_le, refl, remove, subst, suc, sym, true, zero, ◌%◌, ◌+◌, ◌-◌, ◌++◌, ◌<◌, ◌∙◌, ◌∷◌, ◌≡◌, ◌≤◌, ℕ}
use Rattle.std.proofs.Common.{inl, inr, ◌/◌}
use Rattle.std.proofs.lemmas.Bool.{cases_lt, leb-true}
use Rattle.std.proofs.lemmas.List.Sums.{sum_by-append}

-- a row of leaves, cut at the leaf of a place
record AtPlace (p : ℕ) (leaves : List ℕ) : Type 0 where
  before : List ℕ
  size : ℕ
  behind : List ℕ
  leaves_are : leaves ≡ before ++ size ∷ behind
  from : total before ≤ p
  low : p < total before + size

at-place : (p : ℕ) (leaves : List ℕ) → p < total leaves → AtPlace p leaves
at-place p [] low = absurd (omega (arith, low))
at-place p (size ∷ after) low = elim (cases_lt p size) [
  | inl here ↦ record { before = []; size = size; behind = after; leaves_are = refl; from = omega arith; low = omega (arith, here) }
  | inr past ↦ (let r = at-place (p - size) after (omega (arith, low, past, total-cons size after)) in
      record { before = size ∷ r.before; size = r.size; behind = r.behind; leaves_are = ap (λ z. size ∷ z) r.leaves_are; from = omega (arith, r.from, past, total-cons size r.before); low = omega (arith, r.low, past, total-cons size r.before) })
]

-- the leaves that have so many entries together at most, and the others
record WithinCut (q : ℕ) (leaves : List ℕ) : Type 0 where
  dropped : List ℕ
  after : List ℕ
  leaves_are : leaves ≡ dropped ++ after
  count : leaves_within q leaves ≡ length dropped
  few : total dropped ≤ q

within-cut : (q : ℕ) (leaves : List ℕ) → WithinCut q leaves
within-cut q [] = record { dropped = []; after = []; leaves_are = refl; count = refl; few = omega arith }
within-cut q (size ∷ after) = go (nat_le size q) refl (within-cut (q - size) after)
  where
    go : (b : Bool) → nat_le size q ≡ b → WithinCut (q - size) after → WithinCut q (size ∷ after)
    go false e r = record { dropped = []; after = size ∷ after; leaves_are = refl; count = ap (λ b. if b then suc (leaves_within (q - size) after) else 0) e; few = omega arith }
    go true e r = record {
      dropped = size ∷ r.dropped;
      after = r.after;
      leaves_are = ap (λ z. size ∷ z) r.leaves_are;
      count = ap (λ b. if b then suc (leaves_within (q - size) after) else 0) e ∙ ap suc r.count;
      few = omega (arith, r.few, leb-true size q e, total-cons size r.dropped);
    }

removed-is : (before : List ℕ) (size x : ℕ) (after : List ℕ) → remove (before ++ size ∷ x ∷ after) (suc (length before)) ≡ before ++ size ∷ after
removed-is [] size x after = refl
removed-is (b ∷ before) size x after = ap (λ z. b ∷ z) (removed-is before size x after)

module _ (half most : ℕ) (one : 1 ≤ half) where
  fit-without : (before : List ℕ) (size x : ℕ) (after : List ℕ) → IsFitLevel half most (before ++ size ∷ x ∷ after) → IsFitLevel half most (before ++ size ∷ after)
  fit-without [] size x after fit = (omega (arith, fit.0, least-half half after one), fit.1, fit.2.2)
  fit-without (b ∷ []) size x after fit = (fit.0, fit.1, fit-without [] size x after fit.2)
  fit-without (b ∷ c ∷ before) size x after fit = (fit.0, fit.1, fit-without (c ∷ before) size x after fit.2)

-- each leaf that goes later may go first
first-goes : (index count : ℕ) (sizes : List (List ℕ)) → without_leaves index (suc count) sizes ≡ without_leaves index count (without_next index sizes)
first-goes index zero sizes = refl
first-goes index (suc count) sizes = ap (without_next index) (first-goes index count sizes)

module _ (n : ℕ) (odd : n % 2 ≡ 1) (before : List ℕ) (size : ℕ) where
  -- the sizes without a leaf fit its entries less
  next-fits : (x : ℕ) (after : List ℕ) (levels : List (List ℕ)) (len : ℕ) → IsFitFor n len ((before ++ size ∷ x ∷ after) ∷ levels)
      → (left : List (List ℕ)) × (without_next (length before) ((before ++ size ∷ x ∷ after) ∷ levels) ≡ (before ++ size ∷ after) ∷ left) × IsFitFor n (len - x) ((before ++ size ∷ after) ∷ left)
  next-fits x after levels len fit = let new = before ++ size ∷ after in
      let count : suc (length new) ≡ length (before ++ size ∷ x ∷ after) = omega (arith, length-append before (size ∷ after), length-append before (size ∷ x ∷ after)) in
      let up = trimmed-above (length (before ++ size ∷ x ∷ after)) new (Some (length before)) levels (omega (arith, length-append before (size ∷ after))) fit.2 (λ e. absurd cc)
      (λ i e. (count, (let is : length before ≡ i = cc in omega (arith, is, length-append before (size ∷ x ∷ after))))) in
      let sum : total (before ++ size ∷ x ∷ after) ≡ total new + x = omega (arith, sum_by-append (λ (s : ℕ). s) before (size ∷ x ∷ after), sum_by-append (λ (s : ℕ). s) before (size ∷ after), total-cons size (x ∷ after), total-cons x after, total-cons size after) in
      (up.0, ap (λ z. trimmed (z ∷ loss_above (Some (length before)) levels)) (removed-is before size x after) ∙ up.1, (omega (arith, sum, fit.0), fit-without ((n + 1) / 2) n (omega (arith, odd)) before size x after fit.1, up.2))

  -- the same of several leaves
  leaves-fit : (dropped after : List ℕ) (levels : List (List ℕ)) (len : ℕ) → IsFitFor n len ((before ++ size ∷ (dropped ++ after)) ∷ levels)
      → IsFitFor n (len - total dropped) (without_leaves (length before) (length dropped) ((before ++ size ∷ (dropped ++ after)) ∷ levels))
  leaves-fit [] after levels len fit = subst (λ k. IsFitFor n k ((before ++ size ∷ after) ∷ levels)) (let is : len ≡ len - 0 = omega arith in is) fit
  leaves-fit (d ∷ dropped) after levels len fit = let r = next-fits d (dropped ++ after) levels len fit in
      let rest = leaves-fit dropped after r.0 (len - d) r.2 in
      subst (IsFitFor n (len - total (d ∷ dropped))) (sym (first-goes (length before) (length dropped) ((before ++ size ∷ (d ∷ dropped ++ after)) ∷ levels) ∙ ap (without_leaves (length before) (length dropped)) r.1))
      (subst (λ k. IsFitFor n k (without_leaves (length before) (length dropped) ((before ++ size ∷ (dropped ++ after)) ∷ r.0))) (let is : (len - d) - total dropped ≡ len - total (d ∷ dropped) = omega (arith, total-cons d dropped) in is) rest)

module _ (most : ℕ) (odd : most % 2 ≡ 1) where
  -- n removals at one place
  pub removals-fit : (p n len : ℕ) (sizes : List (List ℕ)) → IsFitFor most len sizes → p + n ≤ len → IsFitFor most (len - n) (removals most p n sizes)
  removals-fit p zero len sizes fit low = subst (λ k. IsFitFor most k sizes) (let is : len ≡ len - 0 = omega arith in is) fit
  removals-fit p (suc n) len sizes fit low =
      subst (λ k. IsFitFor most k (shrink most p (removals most p n sizes))) (let is : (len - n) - 1 ≡ len - suc n = omega arith in is)
      (shrink-fits most odd p (len - n) (removals most p n sizes) (removals-fit p n len sizes fit (omega (arith, low))) (omega (arith, low)))

  -- a range of n entries from a place on
  pub range-fits : (p n len : ℕ) (sizes : List (List ℕ)) → IsFitFor most len sizes → p + n ≤ len → IsFitFor most (len - n) (without_range most p n sizes)
  range-fits p zero len sizes fit low = subst (λ k. IsFitFor most k sizes) (let is : len ≡ len - 0 = omega arith in is) fit
  range-fits p (suc n) len [] fit low = absurd (omega (arith, fit, low))
  range-fits p (suc n) len (leaves ∷ levels) fit low = let a = at-place p leaves (omega (arith, fit.0, low)) in
      let w = within-cut ((p + suc n) - (total a.before + a.size)) a.behind in
      let leaves_are : leaves ≡ a.before ++ a.size ∷ (w.dropped ++ w.after) = a.leaves_are ∙ ap (λ z. a.before ++ a.size ∷ z) w.leaves_are in
      let index = index-at a.before a.size (w.dropped ++ w.after) p a.from a.low in
      let count = whole-at a.before a.size (w.dropped ++ w.after) p (suc n) a.from a.low ∙ ap (leaves_within ((p + suc n) - (total a.before + a.size))) (sym w.leaves_are) ∙ w.count in
      let rest = leaves-fit most odd a.before a.size w.dropped w.after levels len (rw leaves_are at fit) in
      let all = removals-fit p (suc n - total w.dropped) (len - total w.dropped) (without_leaves (length a.before) (length w.dropped) ((a.before ++ a.size ∷ (w.dropped ++ w.after)) ∷ levels)) rest (omega (arith, low, w.few, a.low)) in
      rw (leaves_are, index, count, taken-is a.before a.size w.dropped w.after)
      (subst (λ k. IsFitFor most k (removals most p (suc n - total w.dropped) (without_leaves (length a.before) (length w.dropped) ((a.before ++ a.size ∷ (w.dropped ++ w.after)) ∷ levels)))) (let is : (len - total w.dropped) - (suc n - total w.dropped) ≡ len - suc n = omega (arith, low, w.few, a.low) in is) all)
