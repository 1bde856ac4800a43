-- Counting numbers, and rows that a change of the table leaves unchanged.
use Rattle.bforest_core.proofs.Words.{◌≡◌, ℕ, suc, ◌+◌, ◌<◌, ◌≢◌, false, nat_eq, List, [], ◌∷◌, ◌++◌, length, slice_get, Some, refl, ap, ◌∙◌, inl, inr}
use Rattle.bforest_core.proofs.Words.{length-set, arith, Row, Rows, flat_map, list_any, eqb_tells, Content, Table, with_front, IsUsed, slice_get_within, node}
use Rattle.bforest_core.proofs.{Words.{numbers, RowIn, RowsIn, count}, rows.LevelRows.numbers-append}
pub use Rattle.bforest_core.proofs.table.Lists.{slice_get-set_apart, slice_get-set_same}

pub count-append : (n xs ys : _) → count n (xs ++ ys) ≡ count n xs + count n ys
count-append n [] ys = omega arith
count-append n (x ∷ xs) ys = omega (arith, count-append n xs ys)

pub count-same : (n ms : _) → count n (n ∷ ms) ≡ suc (count n ms)
count-same n ms = elim (eqb_tells n n) [ inl w ↦ (let e = w.0 in rw e (omega arith)) | inr w ↦ absurd (w.1 refl) ]

pub count-other : (n m ms : _) → m ≢ n → count n (m ∷ ms) ≡ count n ms
count-other n m ms ne = elim (eqb_tells m n) [ inl w ↦ absurd (ne w.1) | inr w ↦ (let e = w.0 in rw e (omega arith)) ]

pub ne_from_count : (m n ms : _) → 0 < count m ms → count n ms ≡ 0 → m ≢ n
ne_from_count m n ms some none = λ e. let h = ap (λ z. count z ms) e in omega arith

pub absent_ne : (m x ms : _) → count m (x ∷ ms) ≡ 0 → m ≢ x
absent_ne m x ms z = λ e. let c = count-same x ms in let f = ap (λ w. count w (x ∷ ms)) e in omega arith

pub count-row : {K X : Type 0} (k : ℕ) (before : Row K X) (n : ℕ) (es : List (K × X)) (after : Row K X) → count k (numbers (before ++ node n es ∷ after)) ≡ count k (numbers before) + count k (n ∷ numbers after)
count-row k before n es after = ap (count k) (numbers-append _ _) ∙ count-append k _ _

-- how often a number occurs in a level, in all rows from it up, and with the chain
pub counts : {K X : Type 0} (m : ℕ) (before : Row K X) (n : ℕ) (es : List (K × X)) (after : Row K X) (rest : Rows K) (chain : List ℕ) →
    (count m (numbers (before ++ node n es ∷ after)) ≡ count m (numbers before) + count m (n ∷ numbers after))
    × (count m (numbers (before ++ node n es ∷ after) ++ flat_map numbers rest) ≡ count m (numbers (before ++ node n es ∷ after)) + count m (flat_map numbers rest))
    × (count m ((numbers (before ++ node n es ∷ after) ++ flat_map numbers rest) ++ chain) ≡ count m (numbers (before ++ node n es ∷ after) ++ flat_map numbers rest) + count m chain)
counts m before n es after rest chain = (count-row m _ n _ _, count-append m _ _, count-append m _ _)

-- a number that does not occur on the chain is not found there
pub off_chain : (n ms : _) → count n ms ≡ 0 → list_any (nat_eq n) ms ≡ false
off_chain n [] none = refl
off_chain n (m ∷ ms) none =
    elim (eqb_tells n m) [ inl w ↦ absurd (absent_ne n m ms none w.1) | inr w ↦ (let e = w.0 in rw (e, off_chain n ms (omega arith)) refl) ]

module _ {K V : Type 0} where
  pub is_used : (t : Table K V) (n c : _) → slice_get t.nodes n ≡ Some c → count n t.chain ≡ 0 → IsUsed t n
  is_used t n c found none = record { within = slice_get_within _ n c found; off_chain = off_chain n _ none }

  module _ {X : Type 0} (content : List (K × X) → Content K V) where
    -- a row in a table is in any other table that agrees on its slots
    pub row-same : (t u row : _) → ((m : ℕ) → 0 < count m (numbers row) → slice_get u m ≡ slice_get t m) → RowIn content t row → RowIn content u row
    row-same t u [] same i = tt
    row-same t u (node n es ∷ ns) same i = (
      same n (let c = count-same n (numbers ns) in omega arith) ∙ i.0,
      row-same t u ns (λ m some. same m (omega arith)) i.1,
    )

    pub row-split : (t xs ys : _) → RowIn content t (xs ++ ys) → RowIn content t xs × RowIn content t ys
    row-split t [] ys i = (tt, i)
    row-split t (node m es ∷ xs) ys i = let r = row-split t xs ys i.1 in ((i.0, r.0), r.1)

    pub row-join : (t xs ys : _) → RowIn content t xs → RowIn content t ys → RowIn content t (xs ++ ys)
    row-join t [] ys i j = j
    row-join t (node m es ∷ xs) ys i j = (i.0, row-join t xs ys i.1 j)

    -- nodes of a row are replaced, where no slot of its other nodes changes
    pub row-changed : (t u before old new after : _) (own : List ℕ) → RowIn content t (before ++ (old ++ after)) → ((m : ℕ) → count m own ≡ 0 → slice_get u m ≡ slice_get t m) → RowIn content u new →
        ((m : ℕ) → 0 < count m (numbers before) + count m (numbers after) → count m own ≡ 0) → RowIn content u (before ++ (new ++ after))
    row-changed t u before old new after own i same here apart = let s = row-split t _ _ i in
        row-join u _ _ (row-same t u before (λ m some. same m (apart m (omega arith))) s.0)
        (row-join u _ _ here (row-same t u after (λ m some. same m (apart m (omega arith))) (row-split t _ _ s.1).1))

  pub rows-same : (t u : List (Content K V)) (rows : _) → ((m : ℕ) → 0 < count m (flat_map numbers rows) → slice_get u m ≡ slice_get t m) → RowsIn t rows → RowsIn u rows
  rows-same t u [] same i = tt
  rows-same t u (row ∷ rows) same i = (
    row-same _ t u row (λ m some. same m (omega (arith, count-append))) i.0,
    rows-same t u rows (λ m some. same m (omega (arith, count-append))) i.1,
  )

  -- writing the front of the chain keeps the number of slots
  pub length-with_front : (t : Table K V) (chain c : _) → length (with_front t chain c).nodes ≡ length t.nodes
  length-with_front t [] c = refl
  length-with_front t (n ∷ chain) c = length-set _ n c
