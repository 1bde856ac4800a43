-- The front of a row, and of the rows over it: the first nodes, which hold so many entries together.
use Rattle.bforest_core.proofs.Words.{◌≡◌, ℕ, zero, suc, ◌+◌, ◌-◌, ◌≤◌, ◌<◌, true, false, nat_lt, List, [], ◌∷◌, ◌++◌, map, length, take, refl, sym, ap, ◌∙◌, arith}
use Rattle.bforest_core.proofs.Words.{cases_lt, inl, inr, length-take-le, take_all, append-nil, length-append, Heads, Row, Rows, flat_map}
use Rattle.bforest_core.proofs.Words.{FitRow, Stacked, StackedTo, flat, heads, least, node, numbers, sizes, root_above}
use Rattle.bforest_core.proofs.{rows.LevelRows.{least-le, least-pos}, union.Joining.beside, walks.RowNodes.fit_full, removal.Collapse.length-sizes}
use Rattle.bforest_core.specs.{Cut.{front_row, front_rows}, Sizes.{front, fronts}}
use Rattle.std.proofs.lemmas.List.{take-append-le}

-- the first elements of two lists, where they reach into the second
take-over : {A : Type 0} (xs ys : List A) (n k : ℕ) → n ≡ length xs + k → take n (xs ++ ys) ≡ xs ++ take k ys
take-over [] ys n k e = let same : n ≡ k = omega arith in ap (λ z. take z ys) same
take-over (x ∷ xs) ys zero k e = absurd (omega arith)
take-over (x ∷ xs) ys (suc n) k e = ap (λ z. x ∷ z) (take-over xs ys n k (omega arith))

pub sizes-on : (kept size : ℕ) (after : List ℕ) → size < kept → front kept (size ∷ after) ≡ size ∷ front (kept - size) after
sizes-on zero size after low = absurd (omega arith)
sizes-on (suc kept) size after low = let e : nat_lt size (suc kept) ≡ true = grind arith in rw e refl

pub sizes-in : (kept size : ℕ) (after : List ℕ) → 0 < kept → kept ≤ size → front kept (size ∷ after) ≡ kept ∷ []
sizes-in zero size after some within = absurd (omega arith)
sizes-in (suc kept) size after some within = let e : nat_lt size (suc kept) ≡ false = grind arith in rw e refl

module _ {K X : Type 0} where
  -- the place is behind the first node
  front-on : (kept n : ℕ) (es : List (K × X)) (row : Row K X) → length es < kept → front_row kept (node n es ∷ row) ≡ node n es ∷ front_row (kept - length es) row
  front-on zero n es row low = absurd (omega arith)
  front-on (suc kept) n es row low = let e : nat_lt (length es) (suc kept) ≡ true = grind arith in rw e refl

  -- the place is in the first node
  pub front-in : (kept n : ℕ) (es : List (K × X)) (row : Row K X) → 0 < kept → kept ≤ length es → front_row kept (node n es ∷ row) ≡ node n (take kept es) ∷ []
  front-in zero n es row some within = absurd (omega arith)
  front-in (suc kept) n es row some within = let e : nat_lt (length es) (suc kept) ≡ false = grind arith in rw e refl

  pub flat-front : (row : Row K X) (kept : ℕ) → flat (front_row kept row) ≡ take kept (flat row)
  flat-front row zero = refl
  flat-front [] (suc kept) = refl
  flat-front (node n es ∷ row) (suc kept) = elim (cases_lt (length es) (suc kept)) [
    | inl on ↦ rw (front-on (suc kept) n es row on) (ap (λ z. es ++ z) (flat-front row (suc kept - length es)) ∙ sym (take-over es (flat row) (suc kept) (suc kept - length es) (omega arith)))
    | inr in_it ↦ rw (front-in (suc kept) n es row (omega arith) (omega arith)) (append-nil (take (suc kept) es) ∙ sym (take-append-le (suc kept) es (flat row) (omega arith)))
  ]

  pub length-front : (row : Row K X) (kept : ℕ) → length (front_row kept row) ≤ length row
  length-front row zero = omega arith
  length-front [] (suc kept) = omega arith
  length-front (node n es ∷ row) (suc kept) = elim (cases_lt (length es) (suc kept)) [
    | inl on ↦ rw (front-on (suc kept) n es row on) (omega (arith, length-front row (suc kept - length es)))
    | inr in_it ↦ rw (front-in (suc kept) n es row (omega arith) (omega arith)) (omega arith)
  ]

  pub some-front : (row : Row K X) (kept : ℕ) → 0 < kept → kept ≤ length (flat row) → 0 < length (front_row kept row)
  some-front row zero some low = absurd (omega arith)
  some-front [] (suc kept) some low = absurd (omega arith)
  some-front (node n es ∷ row) (suc kept) some low = elim (cases_lt (length es) (suc kept)) [
    | inl on ↦ rw (front-on (suc kept) n es row on) (omega arith)
    | inr in_it ↦ rw (front-in (suc kept) n es row (omega arith) (omega arith)) (omega arith)
  ]

  module _ (half most : ℕ) (one : 1 ≤ half) where
    pub heads-front : (row : Row K X) (kept : ℕ) → FitRow half most row → heads (front_row kept row) ≡ take (length (front_row kept row)) (heads row)
    heads-front row zero f = refl
    heads-front [] (suc kept) f = refl
    heads-front (node n [] ∷ row) (suc kept) f = absurd (omega (arith, f.0, least-pos half one row))
    heads-front (node n (e ∷ es) ∷ row) (suc kept) f = elim (cases_lt (length (e ∷ es)) (suc kept)) [
      | inl on ↦ rw (front-on (suc kept) n (e ∷ es) row on) (ap (λ z. (e.0, n) ∷ z) (heads-front row (suc kept - length (e ∷ es)) f.2))
      | inr in_it ↦ rw (front-in (suc kept) n (e ∷ es) row (omega arith) (omega arith)) refl
    ]

    least-front : (row : Row K X) (kept : ℕ) → least half (front_row kept row) ≤ least half row
    least-front [] zero = omega arith
    least-front [] (suc kept) = omega arith
    least-front (x ∷ row) kept = least-le half one (front_row kept (x ∷ row))

    pub fit-front : (row : Row K X) (kept : ℕ) → FitRow half most row → FitRow half most (front_row kept row)
    fit-front row zero f = tt
    fit-front [] (suc kept) f = tt
    fit-front (node n es ∷ row) (suc kept) f = elim (cases_lt (length es) (suc kept)) [
      | inl on ↦ rw (front-on (suc kept) n es row on) (omega (arith, f.0, least-front row (suc kept - length es)), f.1, fit-front row (suc kept - length es) f.2)
      | inr in_it ↦ rw (front-in (suc kept) n es row (omega arith) (omega arith)) (let len = length-take-le (suc kept) es (omega arith) in (omega arith, omega (arith, f.1), tt))
    ]

    -- the place is in front of the second part
    pub front-left : (a b : Row K X) (kept : ℕ) → kept ≤ length (flat a) → front_row kept (a ++ b) ≡ front_row kept a
    front-left a b zero low = refl
    front-left [] b (suc kept) low = absurd (omega arith)
    front-left (node n es ∷ a) b (suc kept) low = elim (cases_lt (length es) (suc kept)) [
      | inl on ↦ rw (front-on (suc kept) n es (a ++ b) on, front-on (suc kept) n es a on) (ap (λ z. node n es ∷ z) (front-left a b (suc kept - length es) (omega (arith, length-append es (flat a)))))
      | inr in_it ↦ rw (front-in (suc kept) n es (a ++ b) (omega arith) (omega arith), front-in (suc kept) n es a (omega arith) (omega arith)) refl
    ]

    -- a fit row without entries has no nodes
    bare : (row : Row K X) → FitRow half most row → length (flat row) ≡ 0 → row ≡ []
    bare [] f none = refl
    bare (node n es ∷ row) f none = absurd (omega (arith, f.0, least-pos half one row, length-append es (flat row)))

    -- the place is at the end of the first part, or behind it
    pub front-right : (a b : Row K X) (kept all : ℕ) → FitRow half most a → all ≡ length (flat a) + kept → front_row all (a ++ b) ≡ a ++ front_row kept b
    front-right [] b kept all f e = let same : all ≡ kept = omega arith in ap (λ z. front_row z b) same
    front-right (node n es ∷ a) b kept all f e = let len = length-append es (flat a) in elim (cases_lt (length es) all) [
      | inl on ↦ rw (front-on all n es (a ++ b) on) (ap (λ z. node n es ∷ z) (front-right a b kept (all - length es) f.2 (omega arith)))
      | inr in_it ↦ (
          let none : a ≡ [] = bare a f.2 (omega arith) in let zero_is : kept ≡ 0 = omega arith in
          rw (front-in all n es (a ++ b) (omega (arith, f.0, least-pos half one a)) (omega arith), take_all all es (omega arith), none, zero_is) refl
          )
    ]

  pub sizes-front : (row : Row K X) (kept : ℕ) → sizes (front_row kept row) ≡ front kept (sizes row)
  sizes-front row zero = refl
  sizes-front [] (suc kept) = refl
  sizes-front (node n es ∷ row) (suc kept) = elim (cases_lt (length es) (suc kept)) [
    | inl on ↦ rw (front-on (suc kept) n es row on, sizes-on (suc kept) (length es) (sizes row) on) (ap (λ z. length es ∷ z) (sizes-front row (suc kept - length es)))
    | inr in_it ↦ rw (front-in (suc kept) n es row (omega arith) (omega arith), sizes-in (suc kept) (length es) (sizes row) (omega arith) (omega arith)) (ap (λ z. z ∷ []) (length-take-le (suc kept) es (omega arith)))
  ]

module _ {K : Type 0} where
  -- how many nodes of the level above the rows are in front
  abbrev pub tops : ℕ → Rows K → ℕ
  tops kept [] = kept
  tops kept (row ∷ rows) = tops (length (front_row kept row)) rows

  pub height-fronts : (rows : Rows K) (kept : ℕ) → length (front_rows kept rows) ≡ length rows
  height-fronts [] kept = refl
  height-fronts (row ∷ rows) kept = ap suc (height-fronts rows (length (front_row kept row)))

  pub sizes-fronts : (rows : Rows K) (kept : ℕ) → map sizes (front_rows kept rows) ≡ fronts kept (map sizes rows)
  sizes-fronts [] kept = refl
  sizes-fronts (row ∷ rows) kept = let here = sizes-front row kept in let len = sym (length-sizes (front_row kept row)) ∙ ap length here in
      cc (here, sizes-fronts rows (length (front_row kept row)), ap (λ z. fronts z (map sizes rows)) len)

  -- the front of a tree's rows is a tree's rows
  pub stacked-fronts : (list : Heads K) (rows : Rows K) (kept : ℕ) → 0 < kept → kept ≤ length list → Stacked list rows → Stacked (take kept list) (front_rows kept rows)
  stacked-fronts list [] kept some low s = omega (arith, length-take-le kept list low)
  stacked-fronts list (row ∷ rows) kept some low s =
      let full = fit_full 4 8 (omega arith) row s.1 in let flat_is = flat-front row kept ∙ ap (λ z. take kept z) s.0 in
      let rest = stacked-fronts (heads row) rows (length (front_row kept row)) (some-front row kept some (omega (arith, ap length s.0))) (omega (arith, length-front row kept)) s.2 in
      (flat_is, fit-front 4 8 (omega arith) row kept s.1, rw (heads-front 4 8 (omega arith) row kept s.1) rest)

  pub root-fronts : (list : Heads K) (rows : Rows K) (kept : ℕ) → 0 < kept → kept ≤ length list → Stacked list rows → root_above (take kept list) (front_rows kept rows) ≡ root_above list rows
  root-fronts list [] zero some low s = absurd (omega arith)
  root-fronts [] [] (suc kept) some low s = absurd (omega arith)
  root-fronts (x ∷ list) [] (suc kept) some low s = refl
  root-fronts list (row ∷ rows) kept some low s =
      let full = fit_full 4 8 (omega arith) row s.1 in
      ap (λ z. root_above z (front_rows (length (front_row kept row)) rows)) (heads-front 4 8 (omega arith) row kept s.1) ∙
      (root-fronts (heads row) rows (length (front_row kept row)) (some-front row kept some (omega (arith, ap length s.0))) (omega (arith, length-front row kept)) s.2)

  -- one more row on top
  pub fronts-more : (rows : Rows K) (row : Row K ℕ) (kept : ℕ) → front_rows kept (rows ++ row ∷ []) ≡ front_rows kept rows ++ front_row (tops kept rows) row ∷ []
  fronts-more [] row kept = refl
  fronts-more (r ∷ rows) row kept = ap (λ z. front_row kept r ∷ z) (fronts-more rows row (length (front_row kept r)))

  pub tops-none : (rows : Rows K) → tops 0 rows ≡ 0
  tops-none [] = refl
  tops-none (row ∷ rows) = tops-none rows

  pub numbers-none : (rows : Rows K) → flat_map numbers (front_rows 0 rows) ≡ []
  numbers-none [] = refl
  numbers-none (row ∷ rows) = numbers-none rows

  pub tops-few : (list : Heads K) (rows : Rows K) (top : Heads K) (kept : ℕ) → StackedTo list rows top → kept ≤ length list → tops kept rows ≤ length top
  tops-few list [] top kept s low = omega (arith, ap length s)
  tops-few list (row ∷ rows) top kept s low = let full = fit_full 4 8 (omega arith) row s.1 in
      tops-few (heads row) rows top (length (front_row kept row)) s.2 (omega (arith, length-front row kept))

  pub tops-some : (list : Heads K) (rows : Rows K) (top : Heads K) (kept : ℕ) → StackedTo list rows top → 0 < kept → kept ≤ length list → 0 < tops kept rows
  tops-some list [] top kept s some low = some
  tops-some list (row ∷ rows) top kept s some low = let full = fit_full 4 8 (omega arith) row s.1 in
      tops-some (heads row) rows top (length (front_row kept row)) s.2 (some-front row kept some (omega (arith, ap length s.0))) (omega (arith, length-front row kept))

  -- the place is in front of the second of two parts
  pub fronts-left : (list top : Heads K) (a b : Rows K) (kept : ℕ) → length a ≡ length b → StackedTo list a top → kept ≤ length list →
      (front_rows kept (beside a b) ≡ front_rows kept a) × (tops kept (beside a b) ≡ tops kept a)
  fronts-left list top [] b kept same s low = (refl, refl)
  fronts-left list top (row ∷ a) [] kept same s low = absurd (omega arith)
  fronts-left list top (row ∷ a) (row' ∷ b) kept same s low =
      let full = fit_full 4 8 (omega arith) row s.1 in let here = front-left 4 8 (omega arith) row row' kept (omega (arith, ap length s.0)) in
      let rest = fronts-left (heads row) top a b (length (front_row kept row)) (omega arith) s.2 (omega (arith, length-front row kept)) in
      (rw here (ap (λ z. front_row kept row ∷ z) rest.0), ap (λ z. tops (length z) (beside a b)) here ∙ rest.1)

  -- the place is at the end of the first part, or behind it
  pub fronts-right : (list top : Heads K) (a b : Rows K) (kept all : ℕ) → length a ≡ length b → StackedTo list a top → all ≡ length list + kept →
      (front_rows all (beside a b) ≡ beside a (front_rows kept b)) × (tops all (beside a b) ≡ length top + tops kept b)
  fronts-right list top [] [] kept all same s e = (refl, omega (arith, ap length s))
  fronts-right list top [] (row' ∷ b) kept all same s e = absurd (omega arith)
  fronts-right list top (row ∷ a) [] kept all same s e = absurd (omega arith)
  fronts-right list top (row ∷ a) (row' ∷ b) kept all same s e =
      let full = fit_full 4 8 (omega arith) row s.1 in let here = front-right 4 8 (omega arith) row row' kept all s.1 (omega (arith, ap length s.0)) in
      let rest = fronts-right (heads row) top a b (length (front_row kept row')) (length (row ++ front_row kept row')) (omega arith) s.2 (omega (arith, length-append row (front_row kept row'))) in
      (rw here (ap (λ z. (row ++ front_row kept row') ∷ z) rest.0), ap (λ z. tops (length z) (beside a b)) here ∙ rest.1)
