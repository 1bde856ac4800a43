-- Rows from the top: the highest of them, and a node of a row as an entry of the level above.
use Rattle.bforest_core.proofs.Words.{◌≡◌, ℕ, suc, ◌+◌, ◌≤◌, ◌<◌, List, [], ◌∷◌, ◌++◌, length, get_or, refl, sym, ap, ◌∙◌, arith, Heads, Row, Rows}
use Rattle.bforest_core.proofs.Words.{IsTotalOrder, IsStrictlySortedBy, AllByRecursion, Content, IsIncreasing, node, flat, heads, FitRow, RowIn, RowsIn}
use Rattle.bforest_core.proofs.{Words.{inner_content, IsAt, StackedTo, StandsTo, IsUpTo}, rows.LevelRows.least-pos, walks.Rising.all_split}
use Rattle.bforest_core.proofs.walks.Rising.{increasing_split}
use Rattle.std.specs.{Map.keys_of, declared.cmp.Ordering.{Ordering, TheVariants.Less}}

-- the last element of a list
pub record Last {A : Type 0} (xs : List A) : Type 0 where
  pub init : List A
  pub last : A
  pub is : xs ≡ init ++ last ∷ []

pub last_of : {A : Type 0} (x : A) (xs : List A) → Last (x ∷ xs)
last_of x [] = record { init = []; last = x; is = refl }
last_of x (y ∷ xs) = let r = last_of y xs in record { init = x ∷ r.init; last = r.last; is = cc }

-- a place at a node of a row
abbrev pub at_node : {K X : Type 0} {row : Row K X} (before : Row K X) {n : ℕ} (es : List (K × X)) (after : _) {m j index place : ℕ} → row ≡ before ++ node n es ∷ after → m ≡ n → j ≡ index → index < length es → place ≡ length (flat before) + index → IsAt row m j place
at_node before es after row_is m_is j_is low place_is =
    record { before = before; entries = es; after = after; row_is = cc; within = omega arith; place_is = cc }

module _ {K : Type 0} where
  pub stacked_last : (list : Heads K) (rows : Rows K) (row : Row K ℕ) (top : Heads K) → StackedTo list (rows ++ row ∷ []) top → StackedTo list rows (flat row) × FitRow 4 8 row × (heads row ≡ top)
  stacked_last list [] row top s = (sym s.0, s.1, s.2)
  stacked_last list (r ∷ rows) row top s = let w = stacked_last (heads r) rows row top s.2 in ((s.0, s.1, w.0), w.1, w.2)

  pub in_last : {V : Type 0} (slots : List (Content K V)) (rows row : _) → RowsIn slots (rows ++ row ∷ []) → RowsIn slots rows × RowIn inner_content slots row
  in_last slots [] row i = (tt, i.0)
  in_last slots (r ∷ rows) row i = let w = in_last slots rows row i.1 in ((i.0, w.0), w.1)

  -- one more row on top
  pub stands_more : (path indices : List ℕ) (level : ℕ) (rows : Rows K) {row : Row K ℕ} (place : ℕ) {q : ℕ} (high : ℕ) → StandsTo path indices level rows place q → high ≡ level + length rows → (at : IsAt row (get_or path high 0) (get_or indices high 0) q) →
      StandsTo path indices level (rows ++ row ∷ []) place (length at.before)
  stands_more path indices level [] place high s e at = let h : high ≡ level = omega arith in
      (record { before = at.before; entries = at.entries; after = at.after; row_is = rw h at at.row_is; within = rw h at at.within; place_is = s ∙ (rw h at at.place_is) }, refl)
  stands_more path indices level (r ∷ rows) place high s e at = (s.0, stands_more path indices (suc level) rows (length s.0.before) high s.1 (omega arith) at)

-- the node of a row whose head is between these heads
pub record HeadNode {K X : Type 0} (half most : ℕ) (row : Row K X) (a : Heads K) (first : K) (number : ℕ) (b : Heads K) : Type 0 where
  pub before : Row K X
  pub e : K × X
  pub es : List (K × X)
  pub after : Row K X
  pub row_is : row ≡ before ++ node number (e ∷ es) ∷ after
  pub first_is : e.0 ≡ first
  pub before_is : length before ≡ length a
  pub after_is : heads after ≡ b
  pub after_fit : FitRow half most after

module _ {K X : Type 0} where
  pub head_node : (half most : ℕ) → 1 ≤ half → (row : Row K X) (a first number b : _) → FitRow half most row → heads row ≡ a ++ (first, number) ∷ b → HeadNode half most row a first number b
  head_node half most one [] [] first number b f h = absurd cc
  head_node half most one [] (z ∷ a) first number b f h = absurd cc
  head_node half most one (node m [] ∷ ns) a first number b f h = absurd (omega (arith, least-pos half one ns))
  head_node half most one (node m (e ∷ es) ∷ ns) [] first number b f h = let same : ◌≡◌ {A = K × ℕ} (e.0, m) (first, number) = cc in
      record { before = []; e = e; es = es; after = ns; row_is = ap (λ z. node z.1 (e ∷ es) ∷ ns) same; first_is = ap (λ z. z.0) same; before_is = refl; after_is = (cc); after_fit = f.2 }
  head_node half most one (node m (e ∷ es) ∷ ns) (z ∷ a) first number b f h = let r = head_node half most one ns a first number b f.2 (cc) in
      record { before = node m (e ∷ es) ∷ r.before; e = r.e; es = r.es; after = r.after; row_is = cc; first_is = r.first_is; before_is = cc; after_is = r.after_is; after_fit = r.after_fit }

  -- what holds of all keys of a row holds of the keys of its heads
  heads_all : (P : K → Type 0) (row : Row K X) → AllByRecursion P (keys_of (flat row)) → AllByRecursion P (keys_of (heads row))
  heads_all P [] h = tt
  heads_all P (node m [] ∷ ns) h = heads_all P ns h
  heads_all P (node m (e ∷ es) ∷ ns) h = (h.0, heads_all P ns (all_split P _ _ h.1).1)

  -- the heads of a row increase where its entries do
  pub heads_increasing : {cmp : K → K → Ordering} → IsTotalOrder cmp → (row : Row K X) → IsIncreasing cmp (flat row) → IsIncreasing cmp (heads row)
  unfolding IsStrictlySortedBy
  heads_increasing o [] h = tt
  heads_increasing o (node m [] ∷ ns) h = heads_increasing o ns h
  heads_increasing {cmp} o (node m (e ∷ es) ∷ ns) h = (heads_all (λ k. cmp e.0 k ≡ Less) ns (all_split _ _ _ h.0).1, heads_increasing o ns (increasing_split o es (flat ns) h.1).1)

  -- a key that is less than the first head of a row is less than its first entry
  pub upto_flat : (cmp : K → K → Ordering) (half most : ℕ) → 1 ≤ half → (row : Row K X) (key : K) → FitRow half most row → IsUpTo cmp (heads row) key → IsUpTo cmp (flat row) key
  upto_flat cmp half most one [] key f u = tt
  upto_flat cmp half most one (node m [] ∷ ns) key f u = absurd (omega (arith, least-pos half one ns))
  upto_flat cmp half most one (node m (e ∷ es) ∷ ns) key f u = u

-- the nodes of the top increase where the entries of the lowest row do
pub stacked_increasing : {K : Type 0} (cmp : K → K → Ordering) → IsTotalOrder cmp → (list rows top : _) → StackedTo list rows top → IsIncreasing cmp list → IsIncreasing cmp top
stacked_increasing cmp o list [] top s h = rw (← s) h
stacked_increasing cmp o list (row ∷ rows) top s h = stacked_increasing cmp o (heads row) rows top s.2 (heads_increasing o row (rw s.0 h))
