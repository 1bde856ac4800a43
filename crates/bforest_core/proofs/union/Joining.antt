-- Rows that are put side by side, and a node on top of them.
use Rattle.bforest_core.proofs.Words.{FitRow, Heads, Row, Rows, Stacked, Topped, flat, heads, node, numbers, flat_map, count}
use Rattle.bforest_core.proofs.Words.{Content, RowsIn, inner_content, sizes, slice_get, Some, flat_map-append}
use Rattle.bforest_core.proofs.Words.{List, [], ap, arith, length, map, refl, suc, ◌+◌, ◌++◌, ◌<◌, ◌∙◌, ◌≡◌, ◌≤◌, ◌∷◌, ℕ, append-nil, length-append}
use Rattle.bforest_core.proofs.{rows.LevelRows.{flat-append, heads-append, numbers-append, sizes-append}, table.Tables.{count-append, row-join}}
use Rattle.bforest_core.specs.Packed.{AreFullLevels, ArePackedLevels, AreSome, IsFullLevel, IsPackedLevel, Piled}

pub packed-join : (most : ℕ) (a b : List ℕ) → IsFullLevel most a → 0 < length b → IsPackedLevel most b → IsPackedLevel most (a ++ b)
packed-join most [] b f some p = p
packed-join most (size ∷ []) [] f some p = absurd (omega arith)
packed-join most (size ∷ []) (x ∷ b) f some p = (f.0, p)
packed-join most (size ∷ next ∷ a) b f some p = (f.0, packed-join most (next ∷ a) b f.1 some p)

pub full-join : (most : ℕ) (a b : List ℕ) → IsFullLevel most a → IsFullLevel most b → IsFullLevel most (a ++ b)
full-join most [] b f g = g
full-join most (size ∷ a) b f g = (f.0, full-join most a b f.1 g)

pub full-packed : (most : ℕ) (a : List ℕ) → 1 ≤ most → IsFullLevel most a → IsPackedLevel most a
full-packed most [] one f = tt
full-packed most (size ∷ []) one f = (omega (arith, f.0), omega (arith, f.0))
full-packed most (size ∷ next ∷ a) one f = (f.0, full-packed most (next ∷ a) one f.1)

-- a packed row fits
pub fit-packed : {K X : Type 0} (half most : ℕ) → half ≤ most → (row : Row K X) → IsPackedLevel most (sizes row) → FitRow half most row
fit-packed half most low [] p = tt
fit-packed half most low (node m es ∷ []) p = (p.0, p.1, tt)
fit-packed half most low (node m es ∷ (node k fs ∷ row)) p = (omega (arith, p.0, low), omega (arith, p.0), fit-packed half most low (node k fs ∷ row) p.1)

module _ {K X : Type 0} where
  -- a packed row has as many heads as nodes
  heads-packed : (most : ℕ) → 1 ≤ most → (row : Row K X) → IsPackedLevel most (sizes row) → length (heads row) ≡ length row
  heads-packed most one [] p = refl
  heads-packed most one (node m [] ∷ []) p = absurd (omega (arith, p.0))
  heads-packed most one (node m (e ∷ es) ∷ []) p = refl
  heads-packed most one (node m [] ∷ (node k fs ∷ row)) p = absurd (omega (arith, p.0, one))
  heads-packed most one (node m (e ∷ es) ∷ (node k fs ∷ row)) p = ap suc (heads-packed most one (node k fs ∷ row) p.1)

  -- a packed row has at least as many entries as nodes
  flat-packed : (most : ℕ) → 1 ≤ most → (row : Row K X) → IsPackedLevel most (sizes row) → length row ≤ length (flat row)
  flat-packed most one [] p = omega arith
  flat-packed most one (node m es ∷ []) p = omega (arith, p.0, length-append es [])
  flat-packed most one (node m es ∷ (node k fs ∷ row)) p = omega (arith, p.0, one, length-append es (flat (node k fs ∷ row)), flat-packed most one (node k fs ∷ row) p.1)

module _ {K : Type 0} where
  -- rows of as many levels, side by side
  abbrev pub beside : Rows K → Rows K → Rows K
  beside [] rows' = []
  beside (row ∷ rows) [] = []
  beside (row ∷ rows) (row' ∷ rows') = (row ++ row') ∷ beside rows rows'

  pub beside-length : (rows rows' : Rows K) → length rows ≡ length rows' → length (beside rows rows') ≡ length rows
  beside-length [] rows' same = refl
  beside-length (row ∷ rows) [] same = absurd (omega arith)
  beside-length (row ∷ rows) (row' ∷ rows') same = ap suc (beside-length rows rows' (omega arith))

  pub piled-beside : (list list' top top' : Heads K) (rows rows' : Rows K) → length rows ≡ length rows' → Piled list rows top → Piled list' rows' top' → Piled (list ++ list') (beside rows rows') (top ++ top')
  piled-beside list list' top top' [] [] same p q = cc
  piled-beside list list' top top' [] (row' ∷ rows') same p q = absurd (omega arith)
  piled-beside list list' top top' (row ∷ rows) [] same p q = absurd (omega arith)
  piled-beside list list' top top' (row ∷ rows) (row' ∷ rows') same p q = (
    cc (flat-append row row', p.0, q.0),
    rw (heads-append row row') (piled-beside (heads row) (heads row') top top' rows rows' (omega arith) p.1 q.1),
  )

  pub packed-beside : (rows rows' : Rows K) → length rows ≡ length rows' → AreFullLevels (map sizes rows) → AreSome rows' → ArePackedLevels (map sizes rows') → ArePackedLevels (map sizes (beside rows rows'))
  packed-beside [] rows' same f some p = tt
  packed-beside (row ∷ rows) [] same f some p = absurd (omega arith)
  packed-beside (row ∷ rows) (row' ∷ rows') same f some p = (
    rw (sizes-append row row') (packed-join 8 (sizes row) (sizes row') f.0 some.0 p.0),
    packed-beside rows rows' (omega arith) f.1 some.1 p.1,
  )

  pub full-beside : (rows rows' : Rows K) → length rows ≡ length rows' → AreFullLevels (map sizes rows) → AreFullLevels (map sizes rows') → AreFullLevels (map sizes (beside rows rows'))
  full-beside [] rows' same f g = tt
  full-beside (row ∷ rows) [] same f g = absurd (omega arith)
  full-beside (row ∷ rows) (row' ∷ rows') same f g = (
    rw (sizes-append row row') (full-join 8 (sizes row) (sizes row') f.0 g.0),
    full-beside rows rows' (omega arith) f.1 g.1,
  )

  -- a node over the top
  pub piled-over : (list top : Heads K) (rows : Rows K) (number : ℕ) (x : K × ℕ) → Piled list rows (x ∷ top) → Piled list (rows ++ (node number (x ∷ top) ∷ []) ∷ []) ((x.0, number) ∷ [])
  piled-over list top [] number x p = (cc (append-nil (x ∷ top)), refl)
  piled-over list top (row ∷ rows) number x p = (p.0, piled-over (heads row) top rows number x p.1)

  pub packed-over : (rows : Rows K) (number : ℕ) (top : Heads K) → ArePackedLevels (map sizes rows) → 1 ≤ length top → length top ≤ 8 → ArePackedLevels (map sizes (rows ++ (node number top ∷ []) ∷ []))
  packed-over [] number top p some few = ((some, few), tt)
  packed-over (row ∷ rows) number top p some few = (p.0, packed-over rows number top p.1 some few)

  pub full-over : (rows : Rows K) (number : ℕ) (top : Heads K) → AreFullLevels (map sizes rows) → length top ≡ 8 → AreFullLevels (map sizes (rows ++ (node number top ∷ []) ∷ []))
  full-over [] number top f is = ((is, tt), tt)
  full-over (row ∷ rows) number top f is = (f.0, full-over rows number top f.1 is)

  -- packed rows under one node are those of a tree
  pub stacked-piled : (list top : Heads K) (rows : Rows K) → Piled list rows top → length top ≡ 1 → ArePackedLevels (map sizes rows) → Stacked list rows
  stacked-piled list top [] p one k = ap length p ∙ one
  stacked-piled list top (row ∷ rows) p one k = (p.0, fit-packed 4 8 (omega arith) row k.0, stacked-piled (heads row) top rows p.1 one k.1)

  -- a level has at least as many nodes as the top
  piled-many : (list top : Heads K) (rows : Rows K) → Piled list rows top → ArePackedLevels (map sizes rows) → length top ≤ length list
  piled-many list top [] p k = omega (arith, ap length p)
  piled-many list top (row ∷ rows) p k = omega (arith, piled-many (heads row) top rows p.1 k.1, heads-packed 8 (omega arith) row k.0, flat-packed 8 (omega arith) row k.0, ap length p.0)

  -- where a root of two children or more is over packed levels, each level below it has two nodes or more
  pub topped-piled : (list : Heads K) (x : K × ℕ) (top : Heads K) (rows : Rows K) (number : ℕ) → Piled list rows (x ∷ top) → ArePackedLevels (map sizes rows) → 1 ≤ length top → Topped list (rows ++ (node number (x ∷ top) ∷ []) ∷ [])
  topped-piled list x top [] number p k two = (omega (arith, ap length p, two), tt)
  topped-piled list x top (row ∷ rows) number p k two = (omega (arith, piled-many list (x ∷ top) (row ∷ rows) p k, two), topped-piled (heads row) x top rows number p.1 k.1 two)

  -- rows side by side have the nodes of both
  pub numbers-beside : (rows rows' : Rows K) → length rows ≡ length rows' → (m : ℕ) → count m (flat_map numbers (beside rows rows')) ≡ count m (flat_map numbers rows) + count m (flat_map numbers rows')
  numbers-beside [] [] same m = refl
  numbers-beside [] (row' ∷ rows') same m = absurd (omega arith)
  numbers-beside (row ∷ rows) [] same m = absurd (omega arith)
  numbers-beside (row ∷ rows) (row' ∷ rows') same m = omega (arith, ap (count m) (numbers-append row row'), count-append, numbers-beside rows rows' (omega arith) m)

  pub some-beside : (rows rows' : Rows K) → length rows ≡ length rows' → AreSome rows → AreSome (beside rows rows')
  some-beside [] rows' same s = tt
  some-beside (row ∷ rows) [] same s = absurd (omega arith)
  some-beside (row ∷ rows) (row' ∷ rows') same s = (omega (arith, s.0, ap length (sizes-append row row'), length-append (sizes row) (sizes row')), some-beside rows rows' (omega arith) s.1)

  pub some-over : (rows : Rows K) (number : ℕ) (top : Heads K) → AreSome rows → AreSome (rows ++ (node number top ∷ []) ∷ [])
  some-over [] number top s = (omega arith, tt)
  some-over (row ∷ rows) number top s = (s.0, some-over rows number top s.1)

  pub numbers-over : (rows : Rows K) (number : ℕ) (top : Heads K) → flat_map numbers (rows ++ (node number top ∷ []) ∷ []) ≡ flat_map numbers rows ++ number ∷ []
  numbers-over rows number top = cc (flat_map-append numbers rows ((node number top ∷ []) ∷ []), append-nil (number ∷ []))

module _ {K V : Type 0} where
  pub rows-in-beside : (slots : List (Content K V)) (rows rows' : Rows K) → RowsIn slots rows → RowsIn slots rows' → RowsIn slots (beside rows rows')
  rows-in-beside slots [] rows' i j = tt
  rows-in-beside slots (row ∷ rows) [] i j = tt
  rows-in-beside slots (row ∷ rows) (row' ∷ rows') i j = (row-join inner_content slots row row' i.0 j.0, rows-in-beside slots rows rows' i.1 j.1)

  pub rows-in-over : (slots : List (Content K V)) (rows : Rows K) (number : ℕ) (top : Heads K) → RowsIn slots rows → slice_get slots number ≡ Some (inner_content top) → RowsIn slots (rows ++ (node number top ∷ []) ∷ [])
  rows-in-over slots [] number top i here = ((here, tt), tt)
  rows-in-over slots (row ∷ rows) number top i here = (i.0, rows-in-over slots rows number top i.1 here)
