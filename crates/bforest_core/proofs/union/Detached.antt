-- The sizes of what is behind a place, once the first node of each level is filled: they fit.
use Rattle.bforest_core.proofs.Words.{◌≡◌, ℕ, zero, suc, ◌+◌, ◌-◌, ◌*◌, ◌≤◌, ◌<◌, List, [], ◌∷◌, length, map, refl, ap, arith, cases_lt, inl, inr, length-append, sum_by, sum_by-cons}
use Rattle.bforest_core.proofs.Words.{IsLeafCapacity, Heads, Row, Rows, FitRow, Stacked, Every, flat, half_of, heads, node, sizes}
use Rattle.bforest_core.proofs.{removal.Collapse.length-sizes, rows.LevelRows.some_leaf, walks.RowNodes.fit_full}
use Rattle.bforest_core.proofs.union.{Backs.{back-in, back-length, back-on, back-some}, Filled.{filled-half, filled-merged, filled-pair, filled-shared, lessened-none}}
use Rattle.bforest_core.specs.{Detach.{row_sizes}, Packed.{Piled}, Sizes.{IsFitLevel, back, backs, filled, filled_above, filled_levels, least_size, lessened}}

-- the sum of a level's sizes
abbrev pub total : List ℕ → ℕ
total level = sum_by (λ (size : ℕ). size) level

-- the sum with one size in front
pub total-cons : (size : ℕ) (after : List ℕ) → total (size ∷ after) ≡ size + total after
total-cons size after = sum_by-cons (λ (n : ℕ). n) size after

-- the least size of a node is one or more, and no node needs more than half
least-within : (half : ℕ) → 1 ≤ half → (rest : List ℕ) → (1 ≤ least_size half rest) × (least_size half rest ≤ half)
least-within half one [] = (omega arith, one)
least-within half one (next ∷ rest) = (one, omega arith)

-- the first node of the level is not empty and does not exceed its capacity, and those behind it fit
abbrev pub Loose : ℕ → ℕ → List ℕ → Type 0
Loose half most [] = Unit {0}
Loose half most (size ∷ rest) = (1 ≤ size) × (size ≤ most) × IsFitLevel half most rest

-- loose levels above one of `count` nodes, which are the children of the next level, and so on
abbrev LooseAbove : ℕ → List (List ℕ) → Type 0
LooseAbove count [] = Unit {0}
LooseAbove count (level ∷ levels) = (total level ≡ count) × Loose 4 8 level × LooseAbove (length level) levels

module _ (half most : ℕ) (one : 1 ≤ half) where
  -- no node of a fit level is empty
  fit-some : (level : List ℕ) → IsFitLevel half most level → Every (λ size. 1 ≤ size) level
  fit-some [] fit = tt
  fit-some (size ∷ rest) fit = (omega (arith, fit.0, least-within half one rest), fit-some rest fit.2)

  -- nor is one of a loose level
  loose-some : (level : List ℕ) → Loose half most level → Every (λ size. 1 ≤ size) level
  loose-some [] loose = tt
  loose-some (size ∷ rest) loose = (loose.0, fit-some rest loose.2)

  -- what is behind the first entries of a fit level is loose
  pub back-loose : (gone : ℕ) (level : List ℕ) → IsFitLevel half most level → Loose half most (back gone level)
  back-loose zero [] fit = tt
  back-loose zero (size ∷ rest) fit = (omega (arith, fit.0, least-within half one rest), fit.1, fit.2)
  back-loose (suc gone) [] fit = tt
  back-loose (suc gone) (size ∷ rest) fit = elim (cases_lt (suc gone) size) [
    | inl in_it ↦ rw (back-in (suc gone) size rest (omega arith) in_it) (omega arith, omega (arith, fit.1), fit.2)
    | inr on ↦ rw (back-on (suc gone) size rest (omega arith) (omega arith)) (back-loose (suc gone - size) rest fit.2)
  ]

  -- A loose level whose first node is filled, and then has lost a child or none, fits: a node that is alone had more children than that.
  pub lost-fit : (lost : ℕ) (level : List ℕ) → half ≤ most → 2 * half + lost ≤ most + 1 → lost ≤ 1 → lost < total level → Loose half most level →
      IsFitLevel half most (lessened lost (filled most level))
  lost-fit lost [] low wide few more loose = tt
  lost-fit lost (size ∷ []) low wide few more loose = (omega (arith, more, total-cons size []), omega (arith, loose.1), tt)
  lost-fit lost (size ∷ next ∷ rest) low wide few more loose = let least = least-within half one rest in let behind = loose.2 in elim (cases_lt most (2 * size)) [
    | inl enough ↦ rw (filled-half (next ∷ rest) enough) (omega (arith, enough, wide, few), omega (arith, loose.1), behind)
    | inr not ↦ elim (cases_lt most (size + next)) [
      | inl over ↦ rw (filled-shared most size next rest (omega (arith, not)) over)
          (omega (arith, over, wide, few), omega (arith, not, behind.1, loose.1), (omega (arith, over, wide, least), omega (arith, not, behind.1, loose.1), behind.2))
      | inr fits ↦ rw (filled-merged most size next rest (omega (arith, not)) (omega (arith, fits))) (omega (arith, few, loose.0, behind.0), omega (arith, fits), behind.2)
    ]
  ]

-- the entries behind the first are as many less
pub back-total : (gone : ℕ) (level : List ℕ) → gone ≤ total level → total (back gone level) + gone ≡ total level
back-total zero level low = omega arith
back-total (suc gone) [] low = absurd (omega (arith, low))
back-total (suc gone) (size ∷ rest) low = let sum = total-cons size rest in elim (cases_lt (suc gone) size) [
  | inl in_it ↦ rw (back-in (suc gone) size rest (omega arith) in_it) (omega (arith, sum, total-cons (size - suc gone) rest, in_it))
  | inr on ↦ rw (back-on (suc gone) size rest (omega arith) (omega arith)) (omega (arith, sum, on, back-total (suc gone - size) rest (omega (arith, low, sum, on))))
]

-- a level that is filled loses a node or none, and not all
pub filled-lost : (most : ℕ) (level : List ℕ) → 0 < total level → (length level - length (filled most level) ≤ 1) × (length level - length (filled most level) < length level)
filled-lost most [] some = absurd (omega (arith, some))
filled-lost most (size ∷ []) some = (omega arith, omega arith)
filled-lost most (size ∷ next ∷ rest) some = let p = filled-pair most size next in
    omega (arith, ap length (p.is rest), length-append p.pair rest, p.few, p.some)

-- loose levels fit once the first node of each is filled
above-fit : (count lost : ℕ) (levels : List (List ℕ)) → LooseAbove count levels → lost ≤ 1 → lost < count → Every (IsFitLevel 4 8) (filled_above lost levels)
above-fit count lost [] loose few more = tt
above-fit count lost (level ∷ levels) loose few more =
    let l = filled-lost 8 level (omega (arith, more, loose.0)) in (
      lost-fit 4 8 (omega arith) lost level (omega arith) (omega (arith, few)) few (omega (arith, more, loose.0)) loose.1,
      above-fit (length level) (length level - length (filled 8 level)) levels loose.2 l.0 l.1,
    )

-- no node of loose levels is empty
above-some : (count : ℕ) (levels : List (List ℕ)) → LooseAbove count levels → Every (Every (λ size. 1 ≤ size)) levels
above-some count [] loose = tt
above-some count (level ∷ levels) loose = (loose-some 4 8 (omega arith) level loose.1, above-some (length level) levels loose.2)

module _ {K X : Type 0} where
  -- the sizes of a row add up to its entries
  pub sizes-sum : (row : Row K X) → total (sizes row) ≡ length (flat row)
  sizes-sum [] = refl
  sizes-sum (node m es ∷ row) = omega (arith, total-cons (length es) (sizes row), sizes-sum row, length-append es (flat row))

  -- a fit row has fit sizes
  pub sizes-fit : (half most : ℕ) (row : Row K X) → FitRow half most row → IsFitLevel half most (sizes row)
  sizes-fit half most [] f = tt
  sizes-fit half most (node m es ∷ []) f = (f.0, f.1, tt)
  sizes-fit half most (node m es ∷ node n xs ∷ row) f = (f.0, f.1, sizes-fit half most (node n xs ∷ row) f.2)

  -- a row of fit sizes fits
  fit-sizes : (half most : ℕ) (row : Row K X) → IsFitLevel half most (sizes row) → FitRow half most row
  fit-sizes half most [] f = tt
  fit-sizes half most (node m es ∷ []) f = (f.0, f.1, tt)
  fit-sizes half most (node m es ∷ node n xs ∷ row) f = (f.0, f.1, fit-sizes half most (node n xs ∷ row) f.2)

  -- what is behind the first entries of a row, so many, and how many nodes are in front
  record Behind (half most : ℕ) (row : Row K X) (gone : ℕ) : Type 0 where
    pub sum : total (back gone (sizes row)) ≡ length (flat row) - gone
    pub loose : Loose half most (back gone (sizes row))
    pub low : length (sizes row) - length (back gone (sizes row)) < length (heads row)
    pub left : length (heads row) - (length (sizes row) - length (back gone (sizes row))) ≡ length (back gone (sizes row))

  -- a fit row that has more entries than that
  behind : (half most : ℕ) → 1 ≤ half → (row : Row K X) (gone : ℕ) → FitRow half most row → gone < length (flat row) → Behind half most row gone
  behind half most one row gone f within =
      let full = fit_full half most one row f in let count = length-sizes row in let few = back-length row gone in let some = back-some row gone within in record {
        sum = omega (arith, within, sizes-sum row, back-total gone (sizes row) (omega (arith, within, sizes-sum row)));
        loose = back-loose half most one gone (sizes row) (sizes-fit half most row f);
        low = omega (arith, full, count, few, some);
        left = omega (arith, full, count, few);
      }

module _ {K : Type 0} where
  -- the levels behind the first nodes of a tree's rows are loose
  backs-loose : (list : Heads K) (rows : Rows K) (gone : ℕ) → Stacked list rows → gone < length list → LooseAbove (length list - gone) (backs gone (map sizes rows))
  backs-loose list [] gone s within = tt
  backs-loose list (row ∷ rows) gone s within = let b = behind 4 8 (omega arith) row gone s.1 (omega (arith, within, ap length s.0)) in
      let rest = backs-loose (heads row) rows (length (sizes row) - length (back gone (sizes row))) s.2 b.low in
      (omega (arith, b.sum, ap length s.0), b.loose, rw b.left at rest)

  -- rows of fit sizes under one node are those of a tree
  stacked-fit : (list : Heads K) (x : K × ℕ) (rows : Rows K) → Piled list rows (x ∷ []) → Every (IsFitLevel 4 8) (map sizes rows) → Stacked list rows
  stacked-fit list x [] p f = ap length p
  stacked-fit list x (row ∷ rows) p f = (p.0, fit-sizes 4 8 row f.0, stacked-fit (heads row) x rows p.1 f.1)

module _ {K V : Type 0} {most : ℕ} (capacity : IsLeafCapacity most) (leaves : Row K V) (above : Rows K) (fit : FitRow (half_of most) most leaves) (stacked : Stacked (heads leaves) above)
    {place : ℕ} (low : place < length (flat leaves)) where
  -- the sizes of the leaves behind the place
  abbrev first : List ℕ
  first = back place (sizes leaves)

  -- the sizes of the nodes above the leaves
  abbrev others : List (List ℕ)
  others = backs (length (sizes leaves) - length first) (map sizes above)

  -- what is behind the place in the leaves
  on-leaves : Behind (half_of most) most leaves place
  on-leaves = behind (half_of most) most (some_leaf capacity) leaves place fit low

  -- the levels above are loose
  others-loose : LooseAbove (length first) others
  others-loose = rw on-leaves.left at (backs-loose (heads leaves) above (length (sizes leaves) - length first) stacked on-leaves.low)

  -- no node behind the place is empty
  pub behind-some : Every (Every (λ size. 1 ≤ size)) (backs place (row_sizes leaves above))
  behind-some = (loose-some (half_of most) most (some_leaf capacity) first on-leaves.loose, above-some _ _ others-loose)

  -- the sizes of the leaves fit once the first is filled
  first-fit : IsFitLevel (half_of most) most (filled most first)
  first-fit = rw (lessened-none (filled most first)) at
      (lost-fit (half_of most) most (some_leaf capacity) 0 first (omega (arith, capacity.least)) (omega arith) (omega arith) (omega (arith, on-leaves.sum, low)) on-leaves.loose)

  -- the sizes of the nodes above the leaves fit
  others-fit : Every (IsFitLevel 4 8) (filled_above (length first - length (filled most first)) others)
  others-fit = let l = filled-lost most first (omega (arith, on-leaves.sum, low)) in above-fit _ _ _ others-loose l.0 l.1

  -- leaves and rows of the filled sizes under one node are those of a tree
  pub behind-fit : (leaves' : Row K V) (rows' : Rows K) (x : K × ℕ) → Piled (heads leaves') rows' (x ∷ []) → row_sizes leaves' rows' ≡ filled_levels most (backs place (row_sizes leaves above)) →
      FitRow (half_of most) most leaves' × Stacked (heads leaves') rows'
  behind-fit leaves' rows' x piled is =
      let here : sizes leaves' ≡ filled most first = cc in
      let over : map sizes rows' ≡ filled_above (length first - length (filled most first)) others = cc in
      (fit-sizes (half_of most) most leaves' (rw here first-fit), stacked-fit (heads leaves') x rows' piled (rw over others-fit))
