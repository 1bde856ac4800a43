-- The sizes of a tree after all entries from a place on were removed: they fit the entries that are left.
use Rattle.bforest.proofs.Growing.{total, total-cons}
use Rattle.bforest_core.proofs.union.Fronts.{sizes-in, sizes-on}
use Rattle.bforest_core.specs.Levels.{half_of}
use Rattle.bforest_core.specs.Sizes.{front, fronts, least_size, trimmed}
use Rattle.bforest.specs.Calls.{truncation}
use Rattle.bforest.specs.Forest.{IsFitAbove, IsFitFor, IsFitLevel, truncated}
use Rattle.std.proofs.Common.{List, [], arith, inl, inr, length, refl, subst, suc, sym, zero, ◌+◌, ◌-◌, ◌∷◌, ◌≡◌, ◌≤◌, ℕ}
use Rattle.std.proofs.lemmas.Bool.{cases_lt}

-- the front of a level has so many entries
front-sum : (kept : ℕ) (level : List ℕ) → kept ≤ total level → total (front kept level) ≡ kept
front-sum zero level low = refl
front-sum (suc kept) [] low = absurd (omega (arith, low))
front-sum (suc kept) (size ∷ after) low = elim (cases_lt size (suc kept)) [
  | inl on ↦ rw (sizes-on (suc kept) size after on) (omega (arith, total-cons size (front (suc kept - size) after), front-sum (suc kept - size) after (omega (arith, low, total-cons size after))))
  | inr within ↦ rw (sizes-in (suc kept) size after (omega arith) (omega (arith, within))) (omega (arith, total-cons (suc kept) []))
]

front-length : (kept : ℕ) (level : List ℕ) → length (front kept level) ≤ length level
front-length zero level = omega arith
front-length (suc kept) [] = omega arith
front-length (suc kept) (size ∷ after) = elim (cases_lt size (suc kept)) [
  | inl on ↦ rw (sizes-on (suc kept) size after on) (omega (arith, front-length (suc kept - size) after))
  | inr within ↦ rw (sizes-in (suc kept) size after (omega arith) (omega (arith, within))) (omega arith)
]

least-low : (half : ℕ) (level : List ℕ) → 1 ≤ half → (least_size half level ≤ half) × (1 ≤ least_size half level)
least-low half [] one = (one, omega arith)
least-low half (size ∷ after) one = (omega arith, one)

least-front : (half kept : ℕ) (level : List ℕ) → 1 ≤ half → least_size half (front kept level) ≤ least_size half level
least-front half zero [] one = omega arith
least-front half (suc kept) [] one = omega arith
least-front half kept (size ∷ after) one = (least-low half (front kept (size ∷ after)) one).0

-- the front of a level fits
front-fit : (half most kept : ℕ) (level : List ℕ) → 1 ≤ half → IsFitLevel half most level → IsFitLevel half most (front kept level)
front-fit half most zero level one f = tt
front-fit half most (suc kept) [] one f = tt
front-fit half most (suc kept) (size ∷ after) one f = elim (cases_lt size (suc kept)) [
  | inl on ↦ rw (sizes-on (suc kept) size after on) (omega (arith, f.0, least-front half (suc kept - size) after one), f.1, front-fit half most (suc kept - size) after one f.2)
  | inr within ↦ rw (sizes-in (suc kept) size after (omega arith) (omega (arith, within))) (omega arith, omega (arith, f.1, within), tt)
]

-- the levels above two nodes or more
above-fits : (count kept : ℕ) (levels : List (List ℕ)) → IsFitAbove count levels → kept ≤ count → 2 ≤ kept → IsFitAbove kept (trimmed (fronts kept levels))
above-fits count kept [] f low two = absurd (omega (arith, f, low, two))
above-fits count kept (level ∷ levels) f low two = go (front kept level) (front-sum kept level (omega (arith, f.1, low))) (front-fit 4 8 kept level (omega arith) f.2) (front-length kept level) (λ k few more. above-fits (length level) k levels f.3 few more)
  where
    go : (l : List ℕ) → total l ≡ kept → IsFitLevel 4 8 l → length l ≤ length level → ((k : ℕ) → k ≤ length level → 2 ≤ k → IsFitAbove k (trimmed (fronts k levels))) → IsFitAbove kept (trimmed (l ∷ fronts (length l) levels))
    go [] is fit few rest = absurd (omega (arith, is, two))
    go (size ∷ []) is fit few rest = (two, is, fit, refl)
    go (size ∷ (next ∷ after)) is fit few rest = (two, is, fit, rest (length (size ∷ (next ∷ after))) few (omega arith))

truncated-fits : (most kept entries : ℕ) (sizes : List (List ℕ)) → 1 ≤ half_of most → IsFitFor most entries sizes → kept ≤ entries → IsFitFor most kept (truncated kept sizes)
truncated-fits most kept entries [] one f low = omega (arith, f, low)
truncated-fits most kept entries (leaves ∷ levels) one f low = go (front kept leaves) (front-sum kept leaves (omega (arith, f.0, low))) (front-fit (half_of most) most kept leaves one f.1) (front-length kept leaves)
  where
    go : (l : List ℕ) → total l ≡ kept → IsFitLevel (half_of most) most l → length l ≤ length leaves → IsFitFor most kept (trimmed (l ∷ fronts (length l) levels))
    go [] is fit few = sym is
    go (size ∷ []) is fit few = (is, fit, refl)
    go (size ∷ (next ∷ after)) is fit few = (is, fit, above-fits (length leaves) (length (size ∷ (next ∷ after))) levels f.2 few (omega arith))

pub truncation-fits : (most place n : ℕ) (sizes : List (List ℕ)) → 1 ≤ half_of most → IsFitFor most (place + n) sizes → IsFitFor most place (truncation place n sizes)
truncation-fits most place zero sizes one f = subst (λ z. IsFitFor most z sizes) (let is : place + 0 ≡ place = omega arith in is) f
truncation-fits most place (suc n) sizes one f = truncated-fits most place (place + suc n) sizes one f (omega arith)
