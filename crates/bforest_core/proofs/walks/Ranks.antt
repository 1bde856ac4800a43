-- The codes of a tree's leaves are in the leaves' order.
use Rattle.bforest_core.proofs.Words.{Coded, IsSpotAt, place_by, ◌≡◌, ℕ, ◌+◌, ◌/◌, ◌%◌, ◌≤◌, ◌<◌, List, [], ◌∷◌, ◌++◌, drop, length, sym, ap, ◌∙◌, arith}
use Rattle.bforest_core.proofs.Words.{length-append, inl, inr, IsAt, LevelNode, Table, cases_lt, flat, node, tree_of}
use Rattle.bforest_core.proofs.{walks.Cousins.coded-place, walks.RowNodes.same-cut}
use Rattle.bforest_core.specs.declared.spot.Spot.{Spot}

module _ {K X : Type 0} where
  -- the entries of a node end in front of those of a later one
  pub in-front : (before : List (LevelNode K X)) (a : ℕ) (es : List (K × X)) (after before2 : List (LevelNode K X)) (b : ℕ)
      (fs : List (K × X)) (after2 : List (LevelNode K X)) → before ++ node a es ∷ after ≡ before2 ++ node b fs ∷ after2
      → length before < length before2 → length (flat before) + length es ≤ length (flat before2)
  in-front before a es after [] b fs after2 e low = absurd (omega arith)
  in-front [] a es after (node m xs ∷ before2) b fs after2 e low = let same : es ≡ xs = cc in omega (arith, ap length same, length-append xs (flat before2))
  in-front (node m xs ∷ before) a es after (node q ys ∷ before2) b fs after2 e low =
      let same : xs ≡ ys = cc in let rest = in-front before a es after before2 b fs after2 (cc) (omega arith) in
      omega (arith, rest, ap length same, length-append xs (flat before), length-append ys (flat before2))

  -- of two positions in one row, that in the earlier node is earlier
  at-earlier : {row : List (LevelNode K X)} {a i p b j q : ℕ} (x : IsAt row a i p) (y : IsAt row b j q) → length x.before < length y.before → p < q
  at-earlier {a} {b} x y low = let ends = in-front x.before a x.entries x.after y.before b y.entries y.after (sym x.row_is ∙ y.row_is) low in omega arith

  -- in one node, that with the lower index
  at-index : {row : List (LevelNode K X)} {a i p b j q : ℕ} (x : IsAt row a i p) (y : IsAt row b j q) → length x.before ≡ length y.before → length (flat x.before) ≡ length (flat y.before)
  at-index {a} {b} x y same =
      ap (λ z. length (flat z)) (same-cut x.before (node a x.entries) x.after y.before (node b y.entries) y.after (sym x.row_is ∙ y.row_is) same).0

-- the quotient or else the last digit is less
lower-digits : (c d : ℕ) → c < d → c / 8 ≡ d / 8 → c % 8 < d % 8
lower-digits c d low same = omega arith

module _ {K : Type 0} where
  -- one code has one place
  code-same : (m n : List ℕ) (rows : List (List (LevelNode K ℕ))) (c d p q : ℕ) → Coded m rows c p → Coded n rows d q → c ≡ d → p ≡ q
  code-same m n rows c d p q x y e = sym (coded-place m rows c p x) ∙ ap (place_by rows) e ∙ coded-place n rows d q y

  -- a lower code has an earlier place
  code-less : (m n : List ℕ) (rows : List (List (LevelNode K ℕ))) (c d p q : ℕ) → Coded m rows c p → Coded n rows d q → c < d → p < q
  code-less m n [] c d p q x y low = absurd (omega arith)
  code-less m n (row ∷ rows) c d p q x y low = elim (cases_lt (c / 8) (d / 8)) [
    | inl less ↦ at-earlier x.0 y.0 (code-less (drop 1 m) (drop 1 n) rows (c / 8) (d / 8) (length x.0.before) (length y.0.before) x.1 y.1 less)
    | inr ge ↦ (
        let digits : c / 8 ≡ d / 8 = omega arith in
        let same = code-same (drop 1 m) (drop 1 n) rows (c / 8) (d / 8) (length x.0.before) (length y.0.before) x.1 y.1 digits in
        omega (arith, at-index x.0 y.0 same, x.0.place_is, y.0.place_is, lower-digits c d low digits)
        )
  ]

-- two leaves of one tree
module _ {K V : Type 0} {table : Table K V} {root : ℕ} {a b : Spot} {p q : ℕ} (x : IsSpotAt table root a p) (y : IsSpotAt table root b q) where
  pub leaf-same : a.code ≡ b.code → p ≡ q
  leaf-same = code-same x.numbers y.numbers (tree_of table.nodes root).above a.code b.code p q x.coded y.coded

  pub leaf-less : a.code < b.code → p < q
  leaf-less = code-less x.numbers y.numbers (tree_of table.nodes root).above a.code b.code p q x.coded y.coded
