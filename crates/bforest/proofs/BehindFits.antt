-- The sizes of a tree after all entries in front of a place were removed, with the first node of each level filled: they fit the entries that are
-- left.
use Rattle.bforest_core.proofs.union.Backs.{back-in, back-on}
use Rattle.bforest_core.proofs.union.Detached.{Loose, back-loose, back-total, filled-lost, lost-fit, total, total-cons}
use Rattle.bforest_core.proofs.union.Filled.{filled-fewer, filled-half, filled-merged, filled-shared, lessened-none}
use Rattle.bforest_core.specs.Levels.{half_of}
use Rattle.bforest_core.specs.Sizes.{back, backs, detached, filled, filled_above, least_size, lessened, trimmed}
use Rattle.bforest.specs.Forest.{IsFitAbove, IsFitFor, IsFitLevel}
use Rattle.std.proofs.Common.{List, [], ap, arith, inl, inr, length, refl, subst, suc, sym, zero, ◌*◌, ◌+◌, ◌-◌, ◌/◌, ◌<◌, ◌∷◌, ◌≡◌, ◌≤◌, ℕ}
use Rattle.std.proofs.lemmas.Bool.{cases_lt}

-- a level that is filled holds what it held
filled-total : (most : ℕ) (level : List ℕ) → total (filled most level) ≡ total level
filled-total most [] = refl
filled-total most (size ∷ []) = refl
filled-total most (size ∷ (next ∷ rest)) = let sum : total (size ∷ (next ∷ rest)) ≡ size + (next + total rest) = omega (arith, total-cons size (next ∷ rest), total-cons next rest) in elim (cases_lt most (2 * size)) [
  | inl enough ↦ ap total (filled-half (next ∷ rest) enough)
  | inr not ↦ elim (cases_lt most (size + next)) [
    | inl over ↦ (let half = (size + next) / 2 in omega (arith, sum, ap total (filled-shared most size next rest (omega (arith, not)) over), total-cons ((size + next) - half) (half ∷ rest), total-cons half rest))
    | inr fits ↦ omega (arith, sum, ap total (filled-merged most size next rest (omega (arith, not)) (omega (arith, fits))), total-cons (size + next) rest)
  ]
]

-- a level whose first node lost a child, or none, holds so many less
lessened-total : (half most lost : ℕ) (level : List ℕ) → lost ≤ 1 → Loose half most level → 0 < length level → total (lessened lost level) + lost ≡ total level
lessened-total half most lost [] few loose some = absurd (omega (arith, some))
lessened-total half most lost (size ∷ rest) few loose some = omega (arith, few, loose.0, total-cons size rest, total-cons (size - lost) rest)

lessened-length : (lost : ℕ) (level : List ℕ) → length (lessened lost level) ≡ length level
lessened-length lost [] = refl
lessened-length lost (size ∷ rest) = refl

-- a fit level is loose
fit-loose : (half most : ℕ) (level : List ℕ) → 1 ≤ half → IsFitLevel half most level → Loose half most level
fit-loose half most [] one f = tt
fit-loose half most (size ∷ rest) one f = (omega (arith, f.0, least-some half rest one), f.1, f.2)
  where
    least-some : (half : ℕ) (rest : List ℕ) → 1 ≤ half → 1 ≤ least_size half rest
    least-some half [] one = omega arith
    least-some half (next ∷ rest) one = one

back-fewer : (gone : ℕ) (level : List ℕ) → length (back gone level) ≤ length level
back-fewer zero level = omega arith
back-fewer (suc gone) [] = omega arith
back-fewer (suc gone) (size ∷ rest) = elim (cases_lt (suc gone) size) [
  | inl in_it ↦ omega (arith, ap length (back-in (suc gone) size rest (omega arith) in_it))
  | inr on ↦ omega (arith, ap length (back-on (suc gone) size rest (omega arith) (omega arith)), back-fewer (suc gone - size) rest)
]

-- What is behind the first entries of a level, so many, with its first node filled, and a child of that lost or none: it holds what is left, and
-- fits.
record Left (half most gone lost : ℕ) (level : List ℕ) : Type 0 where
  pub sum : total (lessened lost (filled most (back gone level))) ≡ (total level - gone) - lost
  pub fit : IsFitLevel half most (lessened lost (filled most (back gone level)))
  pub many : length (lessened lost (filled most (back gone level))) ≡ length (filled most (back gone level))
  pub few : length (back gone level) - length (filled most (back gone level)) ≤ 1
  pub less : length (filled most (back gone level)) ≤ length (back gone level)
  pub low : length (back gone level) ≤ length level

left : (half most gone lost : ℕ) (level : List ℕ) → 1 ≤ half → half ≤ most → 2 * half + lost ≤ most + 1 → lost ≤ 1 → IsFitLevel half most level → lost < total level - gone → Left half most gone lost level
left half most gone lost level one wide over few fit more =
    let behind = back gone level in
    let loose = back-loose half most one gone level fit in
    let sum : total behind ≡ total level - gone = omega (arith, more, back-total gone level (omega (arith, more))) in
    let whole = rw (lessened-none (filled most behind)) at (lost-fit half most one 0 behind wide (omega (arith, over)) (omega arith) (omega (arith, more, sum)) loose) in
    let l = filled-lost most behind (omega (arith, more, sum)) in
    record {
      sum = omega (arith, sum, filled-total most behind, lessened-total half most lost (filled most behind) few (fit-loose half most (filled most behind) one whole) (omega (arith, l.1)));
      fit = lost-fit half most one lost behind wide over few (omega (arith, more, sum)) loose;
      many = lessened-length lost (filled most behind);
      few = l.0;
      less = filled-fewer most behind;
      low = back-fewer gone level;
    }

-- the levels over one of which so many nodes are in front, and one more is lost or none
above-fits : (count gone lost : ℕ) (levels : List (List ℕ)) → IsFitAbove count levels → lost ≤ 1 → 2 ≤ (count - gone) - lost → IsFitAbove ((count - gone) - lost) (trimmed (filled_above lost (backs gone levels)))
above-fits count gone lost [] f few two = absurd (omega (arith, f, two))
above-fits count gone lost (level ∷ levels) f few two =
    let l = left 4 8 gone lost level (omega arith) (omega arith) (omega (arith, few)) few f.2 (omega (arith, f.1, two)) in
    go (lessened lost (filled 8 (back gone level))) (omega (arith, l.sum, f.1)) l.fit l.many (above-fits (length level) (length level - length (back gone level)) (length (back gone level) - length (filled 8 (back gone level))) levels f.3 l.few) l.less l.low
  where
    go : (row : List ℕ) → total row ≡ (count - gone) - lost → IsFitLevel 4 8 row → length row ≡ length (filled 8 (back gone level))
        → (2 ≤ (length level - (length level - length (back gone level))) - (length (back gone level) - length (filled 8 (back gone level)))
        → IsFitAbove ((length level - (length level - length (back gone level))) - (length (back gone level) - length (filled 8 (back gone level)))) (trimmed (filled_above (length (back gone level) - length (filled 8 (back gone level))) (backs (length level - length (back gone level)) levels))))
        → length (filled 8 (back gone level)) ≤ length (back gone level) → length (back gone level) ≤ length level
        → IsFitAbove ((count - gone) - lost) (trimmed (row ∷ filled_above (length (back gone level) - length (filled 8 (back gone level))) (backs (length level - length (back gone level)) levels)))
    go [] is fit len rest less low = absurd (omega (arith, is, two))
    go (size ∷ []) is fit len rest less low = (two, is, fit, refl)
    go (size ∷ (next ∷ after)) is fit len rest less low =
        let same : (length level - (length level - length (back gone level))) - (length (back gone level) - length (filled 8 (back gone level))) ≡ length (size ∷ (next ∷ after)) = omega (arith, len, less, low) in
        (two, is, fit, subst (λ z. IsFitAbove z (trimmed (filled_above (length (back gone level) - length (filled 8 (back gone level))) (backs (length level - length (back gone level)) levels)))) same (rest (omega (arith, same))))

none-left : (half most : ℕ) (level : List ℕ) → Loose half most level → total level ≡ 0 → level ≡ []
none-left half most [] loose none = refl
none-left half most (size ∷ rest) loose none = absurd (omega (arith, loose.0, none, total-cons size rest))

-- the sizes of the entries behind the first, so many, fit them
pub detached-fits : (most gone entries : ℕ) (sizes : List (List ℕ)) → 1 ≤ half_of most → IsFitFor most entries sizes → gone ≤ entries → IsFitFor most (entries - gone) (detached most gone sizes)
detached-fits most zero entries sizes one f low = subst (λ z. IsFitFor most z sizes) (let is : entries ≡ entries - 0 = omega arith in is) f
detached-fits most (suc gone) entries [] one f low = absurd (omega (arith, f, low))
detached-fits most (suc gone) entries (leaves ∷ levels) one f low = elim (cases_lt (suc gone) entries) [
  | inl more ↦ (
      let l = left (half_of most) most (suc gone) 0 leaves one (omega (arith, one)) (omega arith) (omega arith) f.1 (omega (arith, f.0, more)) in
      go (filled most (back (suc gone) leaves)) (omega (arith, f.0, l.sum, ap total (lessened-none (filled most (back (suc gone) leaves))))) (rw (lessened-none (filled most (back (suc gone) leaves))) at l.fit) refl
      (above-fits (length leaves) (length leaves - length (back (suc gone) leaves)) (length (back (suc gone) leaves) - length (filled most (back (suc gone) leaves))) levels f.2 l.few) l.less l.low
      )
  | inr all ↦ (
      let none = none-left (half_of most) most (back (suc gone) leaves) (back-loose (half_of most) most one (suc gone) leaves f.1) (omega (arith, f.0, all, low, back-total (suc gone) leaves (omega (arith, f.0, low)))) in
      subst (λ z. IsFitFor most (entries - suc gone) (trimmed (filled most z ∷ filled_above (length z - length (filled most z)) (backs (length leaves - length z) levels)))) (sym none) (omega (arith, all))
      )
]
  where
    go : (row : List ℕ) → total row ≡ entries - suc gone → IsFitLevel (half_of most) most row → length row ≡ length (filled most (back (suc gone) leaves))
        → (2 ≤ (length leaves - (length leaves - length (back (suc gone) leaves))) - (length (back (suc gone) leaves) - length (filled most (back (suc gone) leaves)))
        → IsFitAbove ((length leaves - (length leaves - length (back (suc gone) leaves))) - (length (back (suc gone) leaves) - length (filled most (back (suc gone) leaves)))) (trimmed (filled_above (length (back (suc gone) leaves) - length (filled most (back (suc gone) leaves))) (backs (length leaves - length (back (suc gone) leaves)) levels))))
        → length (filled most (back (suc gone) leaves)) ≤ length (back (suc gone) leaves) → length (back (suc gone) leaves) ≤ length leaves
        → IsFitFor most (entries - suc gone) (trimmed (row ∷ filled_above (length (back (suc gone) leaves) - length (filled most (back (suc gone) leaves))) (backs (length leaves - length (back (suc gone) leaves)) levels)))
    go [] is fit len rest less low = sym is
    go (size ∷ []) is fit len rest less low = (is, fit, refl)
    go (size ∷ (next ∷ after)) is fit len rest less low =
        let same : (length leaves - (length leaves - length (back (suc gone) leaves))) - (length (back (suc gone) leaves) - length (filled most (back (suc gone) leaves))) ≡ length (size ∷ (next ∷ after)) = omega (arith, len, less, low) in
        (is, fit, subst (λ z. IsFitAbove z (trimmed (filled_above (length (back (suc gone) leaves) - length (filled most (back (suc gone) leaves))) (backs (length leaves - length (back (suc gone) leaves)) levels)))) same (rest (omega (arith, same))))
