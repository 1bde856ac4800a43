-- The sizes of what is behind a place, level by level: of rows side by side, and of one more row on top.
use Rattle.bforest_core.proofs.Words.{◌≡◌, ℕ, zero, suc, ◌+◌, ◌-◌, ◌≤◌, ◌<◌, true, false, nat_lt, List, [], ◌∷◌, ◌++◌, map, length, refl, ap, ◌∙◌, arith}
use Rattle.bforest_core.proofs.Words.{cases_lt, inl, inr, length-append, Heads, Row, Rows, FitRow, StackedTo, flat, half_of, heads, node, sizes, Content}
use Rattle.bforest_core.proofs.{removal.Collapse.length-sizes, rows.LevelRows.{least-pos, sizes-append}, union.{Joining.beside, Opened.UnderCut}, walks.RowNodes.fit_full}
use Rattle.bforest_core.specs.{Detach.{row_sizes}, Sizes.{back, backs}}

-- the place is in the first node
pub back-in : (gone size : ℕ) (after : List ℕ) → 0 < gone → gone < size → back gone (size ∷ after) ≡ (size - gone) ∷ after
back-in zero size after some low = absurd (omega arith)
back-in (suc gone) size after some low = let e : nat_lt (suc gone) size ≡ true = grind arith in rw e refl

-- the place is behind the first node, or at its end
pub back-on : (gone size : ℕ) (after : List ℕ) → 0 < gone → size ≤ gone → back gone (size ∷ after) ≡ back (gone - size) after
back-on zero size after some low = absurd (omega arith)
back-on (suc gone) size after some low = let e : nat_lt (suc gone) size ≡ false = grind arith in rw e refl

-- levels side by side
abbrev pub aside : List (List ℕ) → List (List ℕ) → List (List ℕ)
aside [] others = []
aside (level ∷ levels) [] = []
aside (level ∷ levels) (other ∷ others) = (level ++ other) ∷ aside levels others

module _ {K X : Type 0} where
  pub back-length : (row : Row K X) (gone : ℕ) → length (back gone (sizes row)) ≤ length (sizes row)
  back-length row zero = omega arith
  back-length [] (suc gone) = omega arith
  back-length (node n es ∷ row) (suc gone) = elim (cases_lt (suc gone) (length es)) [
    | inl in_it ↦ rw (back-in (suc gone) (length es) (sizes row) (omega arith) in_it) (omega arith)
    | inr on ↦ rw (back-on (suc gone) (length es) (sizes row) (omega arith) (omega arith)) (omega (arith, back-length row (suc gone - length es)))
  ]

  pub back-some : (row : Row K X) (gone : ℕ) → gone < length (flat row) → 0 < length (back gone (sizes row))
  back-some [] gone low = absurd (omega (arith, low))
  back-some (node n es ∷ row) zero low = omega arith
  back-some (node n es ∷ row) (suc gone) low = elim (cases_lt (suc gone) (length es)) [
    | inl in_it ↦ rw (back-in (suc gone) (length es) (sizes row) (omega arith) in_it) (omega arith)
    | inr on ↦ rw (back-on (suc gone) (length es) (sizes row) (omega arith) (omega arith)) (back-some row (suc gone - length es) (omega (arith, low, length-append es (flat row))))
  ]

  -- the place is in the first part, or at its end
  pub back-left : (row row' : Row K X) (gone : ℕ) → gone ≤ length (flat row) → back gone (sizes (row ++ row')) ≡ back gone (sizes row) ++ sizes row'
  back-left row row' zero low = sizes-append row row'
  back-left [] row' (suc gone) low = absurd (omega (arith, low))
  back-left (node n es ∷ row) row' (suc gone) low = elim (cases_lt (suc gone) (length es)) [
    | inl in_it ↦ rw (back-in (suc gone) (length es) (sizes (row ++ row')) (omega arith) in_it, back-in (suc gone) (length es) (sizes row) (omega arith) in_it) (ap (λ z. (length es - suc gone) ∷ z) (sizes-append row row'))
    | inr on ↦ rw (back-on (suc gone) (length es) (sizes (row ++ row')) (omega arith) (omega arith), back-on (suc gone) (length es) (sizes row) (omega arith) (omega arith))
        (back-left row row' (suc gone - length es) (omega (arith, low, length-append es (flat row))))
  ]

  -- the place is at the start of the second part, or behind that
  pub back-right : (half most : ℕ) → 1 ≤ half → (row row' : Row K X) (gone all : ℕ) → FitRow half most row → all ≡ length (flat row) + gone → back all (sizes (row ++ row')) ≡ back gone (sizes row')
  back-right half most one [] row' gone all f is = let same : all ≡ gone = omega arith in ap (λ z. back z (sizes row')) same
  back-right half most one (node n es ∷ row) row' gone all f is = let len = length-append es (flat row) in
      back-on all (length es) (sizes (row ++ row')) (omega (arith, is, len, f.0, least-pos half one row)) (omega (arith, is, len))
      ∙ back-right half most one row row' gone (all - length es) f.2 (omega (arith, is, len))

module _ {K : Type 0} where
  -- how many nodes of the level above the rows are in front
  abbrev pub gones : ℕ → Rows K → ℕ
  gones gone [] = gone
  gones gone (row ∷ rows) = gones (length (sizes row) - length (back gone (sizes row))) rows

  pub sizes-beside : (a b : Rows K) → map sizes (beside a b) ≡ aside (map sizes a) (map sizes b)
  sizes-beside [] b = refl
  sizes-beside (row ∷ a) [] = refl
  sizes-beside (row ∷ a) (row' ∷ b) = cc (sizes-append row row', sizes-beside a b)

  pub gones-none : (rows : Rows K) → gones 0 rows ≡ 0
  gones-none [] = refl
  gones-none (row ∷ rows) = let none : length (sizes row) - length (sizes row) ≡ 0 = omega arith in ap (λ z. gones z rows) none ∙ gones-none rows

  pub gones-low : (list : Heads K) (rows : Rows K) (top : Heads K) (gone : ℕ) → StackedTo list rows top → gone < length list → gones gone rows < length top
  gones-low list [] top gone s low = omega (arith, low, ap length s)
  gones-low list (row ∷ rows) top gone s low = let full = fit_full 4 8 (omega arith) row s.1 in
      gones-low (heads row) rows top (length (sizes row) - length (back gone (sizes row))) s.2
      (omega (arith, full, length-sizes row, back-length row gone, back-some row gone (omega (arith, low, ap length s.0))))

  pub backs-more : (rows : Rows K) (row : Row K ℕ) (gone : ℕ) → backs gone (map sizes (rows ++ row ∷ [])) ≡ backs gone (map sizes rows) ++ back (gones gone rows) (sizes row) ∷ []
  backs-more [] row gone = refl
  backs-more (r ∷ rows) row gone = ap (λ z. back gone (sizes r) ∷ z) (backs-more rows row (length (sizes r) - length (back gone (sizes r))))

  pub backs-left : (list top : Heads K) (a b : Rows K) (gone : ℕ) → length a ≡ length b → StackedTo list a top → gone ≤ length list →
      (backs gone (map sizes (beside a b)) ≡ aside (backs gone (map sizes a)) (map sizes b)) × (gones gone (beside a b) ≡ gones gone a)
  backs-left list top [] b gone same s low = (refl, refl)
  backs-left list top (row ∷ a) [] gone same s low = absurd (omega arith)
  backs-left list top (row ∷ a) (row' ∷ b) gone same s low =
      let full = fit_full 4 8 (omega arith) row s.1 in let here = back-left row row' gone (omega (arith, low, ap length s.0)) in
      let less : length (sizes (row ++ row')) - length (back gone (sizes (row ++ row'))) ≡ length (sizes row) - length (back gone (sizes row)) =
      omega (arith, ap length here, length-append (back gone (sizes row)) (sizes row'), ap length (sizes-append row row'), length-append (sizes row) (sizes row'), back-length row gone) in
      let rest = backs-left (heads row) top a b (length (sizes row) - length (back gone (sizes row))) (omega arith) s.2 (omega (arith, full, length-sizes row)) in
      (cc (here, ap (λ z. backs z (map sizes (beside a b))) less, rest.0), ap (λ z. gones z (beside a b)) less ∙ rest.1)

  pub backs-right : (list top : Heads K) (a b : Rows K) (gone all : ℕ) → length a ≡ length b → StackedTo list a top → all ≡ length list + gone →
      (backs all (map sizes (beside a b)) ≡ backs gone (map sizes b)) × (gones all (beside a b) ≡ length top + gones gone b)
  backs-right list top [] [] gone all same s is = (refl, omega (arith, is, ap length s))
  backs-right list top [] (row' ∷ b) gone all same s is = absurd (omega arith)
  backs-right list top (row ∷ a) [] gone all same s is = absurd (omega arith)
  backs-right list top (row ∷ a) (row' ∷ b) gone all same s is =
      let full = fit_full 4 8 (omega arith) row s.1 in let here = back-right 4 8 (omega arith) row row' gone all s.1 (omega (arith, is, ap length s.0)) in
      let more : length (sizes (row ++ row')) - length (back all (sizes (row ++ row'))) ≡ length (heads row) + (length (sizes row') - length (back gone (sizes row'))) =
      omega (arith, ap length here, ap length (sizes-append row row'), length-append (sizes row) (sizes row'), back-length row' gone, full, length-sizes row) in
      let rest = backs-right (heads row) top a b (length (sizes row') - length (back gone (sizes row'))) _ (omega arith) s.2 more in
      (cc (here, rest.0), rest.1)

  -- how many nodes over leaves and rows are in front of a place of the leaves
  abbrev pub gones_under : {V : Type 0} → ℕ → Row K V → Rows K → ℕ
  gones_under place leaves lower = gones (length (sizes leaves) - length (back place (sizes leaves))) lower

module _ {K V : Type 0} {most : ℕ} {slots : List (Content K V)} (one : 1 ≤ half_of most) {leaves : Row K V} {lower : Rows K} {a b : Heads K} (c : UnderCut most slots leaves lower a b) where
  full : length (heads c.leaves_left) ≡ length c.leaves_left
  full = fit_full (half_of most) most one c.leaves_left c.left.leaves_fit

  heights : length c.lower_left ≡ length c.lower_right
  heights = omega (arith, c.left_height, c.right_height)

  -- a place below the first nodes
  pub behind-left : (place : ℕ) → place ≤ length (flat c.leaves_left) →
      (backs place (row_sizes leaves lower) ≡ aside (backs place (row_sizes c.leaves_left c.lower_left)) (row_sizes c.leaves_right c.lower_right))
      × (gones_under place leaves lower ≡ gones_under place c.leaves_left c.lower_left)
  behind-left place low = let here = ap (λ z. back place (sizes z)) c.leaves_are ∙ back-left c.leaves_left c.leaves_right place low in
      let less : length (sizes leaves) - length (back place (sizes leaves)) ≡ length (sizes c.leaves_left) - length (back place (sizes c.leaves_left)) =
      omega (arith, ap length here, length-append (back place (sizes c.leaves_left)) (sizes c.leaves_right), ap (λ z. length (sizes z)) c.leaves_are, ap length (sizes-append c.leaves_left c.leaves_right), length-append (sizes c.leaves_left) (sizes c.leaves_right), back-length c.leaves_left place) in
      let rest = backs-left (heads c.leaves_left) a c.lower_left c.lower_right (length (sizes c.leaves_left) - length (back place (sizes c.leaves_left))) heights c.left.stacked (omega (arith, full, length-sizes c.leaves_left)) in (
        cc (here, ap (λ z. backs z (map sizes lower)) less, ap (λ z. backs (length (sizes c.leaves_left) - length (back place (sizes c.leaves_left))) (map sizes z)) c.lower_are, rest.0),
        ap (λ z. gones z lower) less ∙ ap (gones (length (sizes c.leaves_left) - length (back place (sizes c.leaves_left)))) c.lower_are ∙ rest.1,
      )

  -- a place below the others
  pub behind-right : (place own : ℕ) → place ≡ length (flat c.leaves_left) + own →
      (backs place (row_sizes leaves lower) ≡ backs own (row_sizes c.leaves_right c.lower_right))
      × (gones_under place leaves lower ≡ length a + gones_under own c.leaves_right c.lower_right)
  behind-right place own is = let here = ap (λ z. back place (sizes z)) c.leaves_are ∙ back-right (half_of most) most one c.leaves_left c.leaves_right own place c.left.leaves_fit is in
      let more : length (sizes leaves) - length (back place (sizes leaves)) ≡ length (heads c.leaves_left) + (length (sizes c.leaves_right) - length (back own (sizes c.leaves_right))) =
      omega (arith, ap length here, ap (λ z. length (sizes z)) c.leaves_are, ap length (sizes-append c.leaves_left c.leaves_right), length-append (sizes c.leaves_left) (sizes c.leaves_right), back-length c.leaves_right own, full, length-sizes c.leaves_left) in
      let rest = backs-right (heads c.leaves_left) a c.lower_left c.lower_right (length (sizes c.leaves_right) - length (back own (sizes c.leaves_right))) (length (sizes leaves) - length (back place (sizes leaves))) heights c.left.stacked more in (
        cc (here, ap (λ z. backs (length (sizes leaves) - length (back place (sizes leaves))) (map sizes z)) c.lower_are, rest.0),
        ap (gones (length (sizes leaves) - length (back place (sizes leaves)))) c.lower_are ∙ rest.1,
      )
