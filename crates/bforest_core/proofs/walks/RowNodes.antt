-- A node at a place of a row, and the nodes beside it.
use Rattle.bforest_core.proofs.Words.{NumberAt, ◌≡◌, ℕ, suc, ◌+◌, ◌≤◌, List, [], ◌∷◌, ◌++◌, length, take, slice_get, Some, refl, sym, ap, subst, ◌∙◌, arith}
use Rattle.bforest_core.proofs.Words.{append_assoc, length-append, Row, nil_from_length, take_at, slice_get_within, Content, node, flat, heads, FitRow, RowIn}
use Rattle.bforest_core.proofs.{table.Tables.row-split, table.Stored.{some_same, slice_get_at}, rows.Zipper.cut, walks.Downward.head_node}
use Rattle.bforest_core.proofs.{rows.LevelRows.{flat-append, least-pos, FitRow-split}, table.Lists.{slice_get-append-add, slice_get-append_left}}

-- a fit row has as many heads as nodes
pub fit_full : {K X : Type 0} (half most : ℕ) → 1 ≤ half → (row : Row K X) → FitRow half most row → length (heads row) ≡ length row
fit_full half most one [] f = refl
fit_full half most one (node m [] ∷ ns) f = absurd (omega (arith, least-pos half one ns))
fit_full half most one (node m (e ∷ es) ∷ ns) f = ap suc (fit_full half most one ns f.2)

-- a fit row without heads has no nodes
pub no_heads : {K X : Type 0} (half most : ℕ) → 1 ≤ half → (row : Row K X) → FitRow half most row → heads row ≡ [] → row ≡ []
no_heads half most one row f none = nil_from_length row (cc (fit_full _ _ one _ f))

-- an entry of a node is an entry of the row
pub entry_at : {K X : Type 0} {row : Row K X} (before : Row K X) (n es after i : _)
    {x : K × X} → row ≡ before ++ node n es ∷ after → slice_get es i ≡ Some x → slice_get (flat row) (length (flat before) + i) ≡ Some x
entry_at before n es after i {x} row_is found =
    cc (row_is, flat-append before (node n es ∷ after), slice_get-append-add (flat before) (es ++ flat after) i, slice_get-append_left es (flat after) i x found)

-- a list cut at one place is cut into the same parts
pub same-cut : {A : Type 0} (b1 : List A) (x1 : A) (a1 b2 : List A) (x2 : A) (a2 : List A) → b1 ++ x1 ∷ a1 ≡ b2 ++ x2 ∷ a2 → length b1 ≡ length b2 → (b1 ≡ b2)
    × (x1 ≡ x2)
same-cut [] x1 a1 [] x2 a2 e l = (refl, cc)
same-cut [] x1 a1 (y ∷ b2) x2 a2 e l = absurd (omega arith)
same-cut (y ∷ b1) x1 a1 [] x2 a2 e l = absurd (omega arith)
same-cut (y ∷ b1) x1 a1 (z ∷ b2) x2 a2 e l = let r = same-cut b1 x1 a1 b2 x2 a2 (cc) (omega arith) in (cc, r.1)

node-number : {K X : Type 0} {i : ℕ} {xs : List (K × X)} {j ys : _} → node i xs ≡ node j ys → i ≡ j
node-number e = cc

module _ {K V X : Type 0} (content : List (K × X) → Content K V) (slots : List (Content K V)) (most : ℕ) where
  -- the node of this number at a place of a row
  pub record NodeIn (row : Row K X) (number place : ℕ) : Type 0 where
    pub before : Row K X
    pub entries : List (K × X)
    pub after : Row K X
    pub row_is : row ≡ before ++ node number entries ∷ after
    pub at : length before ≡ place
    pub slot_is : slice_get slots number ≡ Some (content entries)
    pub some : 1 ≤ length entries
    pub room : length entries ≤ most

  module _ (half : ℕ) (one : 1 ≤ half) (row : Row K X) (fit : FitRow half most row) (inside : RowIn content slots row) where
    abbrev pub node-in : (number place : ℕ) (before : Row K X) (entries after : _)
        → row ≡ before ++ node number entries ∷ after → length before ≡ place → NodeIn row number place
    node-in number place before entries after row_is at =
        let f = (FitRow-split half most before (node number entries) after (rw (← row_is) fit)).1 in record {
          before = before;
          entries = entries;
          after = after;
          row_is = row_is;
          at = at;
          slot_is = (row-split _ _ _ (node number entries ∷ after) (subst (RowIn content slots) row_is inside)).1.0;
          some = omega (arith, least-pos half one after);
          room = f.1;
        }

    pub node-at : (number place : ℕ) → NumberAt (heads row) place number → NodeIn row number place
    node-at number place m = let c = cut (heads row) place (slice_get_within (heads row) place (m.0, number) m.1) in
        let same = some_same {x = c.x} {y = (m.0, number)} (cc (slice_get_at c.l c.x c.r place c.place_is)) in let s = head_node half most one row c.l m.0 number c.r fit (cc) in
        node-in _ _ _ _ _ s.row_is (cc)

module _ {K V X : Type 0} {content : List (K × X) → Content K V} {slots most row number place : _} (a : NodeIn content slots most row number place) where
  -- no other node is at that place
  pub node-same : {number1 : ℕ} (b : NodeIn content slots most row number1 place) → number1 ≡ number
  node-same {number1} b = node-number ((same-cut b.before (node number1 b.entries) b.after a.before (node number a.entries) a.after (cc) cc).1)

  -- the entries of the node are those in front of the next node's
  pub seam : {number1 place1 : ℕ} (b : NodeIn content slots most row number1 place1) → place1 ≡ suc place
      → length (flat b.before) ≡ length (flat a.before) + length a.entries
  seam {number1} b next = let k = length b.before in let x = node number a.entries in
      let two = sym (take_at b.before (node number1 b.entries ∷ b.after) k refl) ∙ ap (take k) (cc (append_assoc _ _ _))
      ∙ take_at (a.before ++ x ∷ []) a.after k (omega (arith, length-append a.before (x ∷ []))) in
      omega (
        arith,
        ap (λ z. length (flat z)) two,
        ap length (flat-append a.before (x ∷ [])),
        length-append (flat a.before) (a.entries ++ []),
        length-append a.entries [],
      )

  -- the entries of the last node of a row end the row's entries
  pub none-behind : (half : ℕ) → 1 ≤ half → FitRow half most row → suc place ≡ length (heads row)
      → length (flat row) ≡ length (flat a.before) + length a.entries
  none-behind half one fit last = let x = node number a.entries in
      let none = nil_from_length a.after (omega (arith, fit_full half most one row fit, ap length a.row_is, length-append a.before (x ∷ a.after))) in omega (
        arith,
        ap (λ z. length (flat z)) a.row_is,
        ap length (flat-append a.before (x ∷ a.after)),
        length-append (flat a.before) (a.entries ++ flat a.after),
        length-append a.entries (flat a.after),
        ap (λ z. length (flat z)) none,
      )
