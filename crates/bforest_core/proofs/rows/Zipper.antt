-- The row above a level where a path stands, cut at the path's entry there, and a tree, cut at the path's index in its leaf.
use Rattle.bforest_core.proofs.Words.{◌≡◌, ℕ, zero, suc, ◌+◌, ◌≤◌, ◌<◌, List, [], ◌∷◌, ◌++◌, length, get_or, slice_get, Some, refl, sym, ap, ◌∙◌}
use Rattle.bforest_core.proofs.Words.{append_assoc, length-append, arith, Heads, Row, Rows, flat_map, Table, node, flat, heads, numbers, FitRow, Solid, RowIn}
use Rattle.bforest_core.proofs.Words.{◌≢◌, Content, Over, inner_content, count, Distinct, StandsAbove, Above, IsFit, Tree, half_of, IsIn, numbers_of}
use Rattle.bforest_core.proofs.Words.{leaf_content, take, drop, length-take-le, take-append-drop}
use Rattle.bforest_core.proofs.{table.Tables.{count-append, count-same, count-row, row-split}, rows.LevelRows.{flat-append, FitRow-split, Solid-full}}

-- two ways to cut one list at one place are the same
pub cut_same : {A : Type 0} (p q : List A) (x y : A) (s t : List A) → p ++ x ∷ s ≡ q ++ y ∷ t → length p ≡ length q → (p ≡ q) × (x ≡ y) × (s ≡ t)
cut_same [] [] x y s t e h = (refl, cc, cc)
cut_same [] (z ∷ q) x y s t e h = absurd (omega arith)
cut_same (z ∷ p) [] x y s t e h = absurd (omega arith)
cut_same (z ∷ p) (w ∷ q) x y s t e h = let r = cut_same p q x y s t (let g : p ++ x ∷ s ≡ q ++ y ∷ t = cc in g) (omega arith) in ((let k = r.0 in cc), r.1, r.2)

-- a list, cut at a place within it
pub record Cut {A : Type 0} (es : List A) (j : ℕ) : Type 0 where
  pub l : List A
  pub x : A
  pub r : List A
  pub es_is : es ≡ l ++ x ∷ r
  pub place_is : length l ≡ j

pub cut : {A : Type 0} (es : List A) (j : ℕ) → j < length es → Cut es j
cut [] j h = absurd (omega arith)
cut (e ∷ es) zero h = record { l = []; x = e; r = es; es_is = refl; place_is = refl }
cut (e ∷ es) (suc j) h = let c = cut es j (omega arith) in record { l = e ∷ c.l; x = c.x; r = c.r; es_is = cc; place_is = cc }

-- the number of the row's node occurs nowhere else in the rows
pub apart_here : {K X : Type 0} (n : ℕ) (before : Row K X) (es after ms fs : _) → Distinct ((numbers (before ++ node n es ∷ after) ++ ms) ++ fs) →
    (count n (numbers before) + count n (numbers after) ≡ 0) × (count n ms ≡ 0) × (count n fs ≡ 0)
apart_here n before es after ms fs d = let one = d n in let a = count-append n (numbers (before ++ node n es ∷ after) ++ ms) fs in
    let b = count-append n (numbers (before ++ node n es ∷ after)) ms in let c = count-row n before n es after in let e = count-same n (numbers after) in
    (omega arith, omega arith, omega arith)

-- the path's place among the nodes of a row
pub stands_here : {K : Type 0} (ms js : List ℕ) (up : ℕ) (row : Row K ℕ) (before : Row K ℕ) (n e : ℕ) (es : Heads K) (after : Row K ℕ) (rest : Rows K) (p : ℕ) →
    Solid 4 8 before → row ≡ before ++ node n es ∷ after → get_or ms up 0 ≡ n → get_or js up 0 ≡ e → e < length es → p ≡ length (flat before) + e → StandsAbove ms js (suc up) rest (length (heads before)) → StandsAbove ms js up (row ∷ rest) p
stands_here ms js up row before n e es after rest p solid row_is n_is e_is within place_is st = (
  record { before = before; entries = es; after = after; row_is = rw n_is row_is; within = omega arith; place_is = omega (arith, place_is) },
  (let full = Solid-full 4 8 (omega arith) before solid in rw (← full) st),
)

module _ {K V : Type 0} where
  -- the row of a level where the path stands
  pub record OnRow (slots : List (Content K V)) (path indices : List ℕ) (up size : ℕ) (rows : Rows K) (list : Heads K) (place : ℕ) : Type 0 where
    pub row : Row K ℕ
    pub rest : Rows K
    pub before : Row K ℕ
    pub entries : Heads K
    pub after : Row K ℕ
    pub rows_are : rows ≡ row ∷ rest
    pub row_is : row ≡ before ++ node (get_or path up 0) entries ∷ after
    pub within : get_or indices up 0 < length entries
    pub place_is : place ≡ length (flat before) + get_or indices up 0
    pub slot_is : slice_get slots (get_or path up 0) ≡ Some (inner_content entries)
    pub fit : FitRow 4 8 row
    pub flat_is : flat row ≡ list
    pub most_is : length entries ≤ 8
    pub inside : RowIn inner_content slots row
    pub over : Over slots path indices (suc up) size rest (heads row) (length before)

  pub on_row : {slots : List (Content K V)} {path indices up size rows list place : _} → Over slots path indices up size rows list place → up ≢ size → OnRow slots path indices up size rows list place
  on_row {rows = []} p other = absurd (other (omega arith))
  on_row {slots} {path} {up} {rows = row ∷ rest} p other = let at = p.stands.0 in
      record {
        row = row;
        rest = rest;
        before = at.before;
        entries = at.entries;
        after = at.after;
        rows_are = refl;
        row_is = at.row_is;
        within = at.within;
        place_is = at.place_is;
        slot_is = (row-split inner_content slots at.before (node (get_or path up 0) at.entries ∷ at.after) (rw (← at.row_is) p.inside.0)).1.0;
        fit = p.stacked.1;
        flat_is = p.stacked.0;
        most_is = (FitRow-split 4 8 at.before (node (get_or path up 0) at.entries) at.after (rw (← at.row_is) p.stacked.1)).1.1;
        inside = p.inside.0;
        over = record { stacked = p.stacked.2; inside = p.inside.1; stands = p.stands.1; height = omega arith };
      }

  -- a level of two nodes or more has a row above it
  pub above_two : {t : Table K V} {ms js up size : _} (rows a x y b : _) {p : ℕ} → Above t ms js up size rows (a ++ x ∷ y ∷ b) p → up < size
  above_two [] a x y b h = absurd (omega (arith, length-append a (x ∷ y ∷ b)))
  above_two (row ∷ rest) a x y b h = omega arith

  -- the path's row above a level, cut at the entry for the node `x` of that level
  pub record Spot (t : Table K V) (ms js : List ℕ) (up size : ℕ) (rows : Rows K) (a : Heads K) (x : K × ℕ) (b : Heads K) : Type 0 where
    pub before : Row K ℕ
    pub l : Heads K
    pub r : Heads K
    pub after : Row K ℕ
    pub rest : Rows K
    pub rows_are : rows ≡ (before ++ node (get_or ms up 0) (l ++ x ∷ r) ∷ after) ∷ rest
    pub a_is : a ≡ flat before ++ l
    pub b_is : b ≡ r ++ flat after
    pub entry_is : length l ≡ get_or js up 0
    pub whole : Above t ms js up size ((before ++ node (get_or ms up 0) (l ++ x ∷ r) ∷ after) ∷ rest) ((flat before ++ l) ++ x ∷ (r ++ flat after)) (length (flat before ++ l))
    pub stands : StandsAbove ms js (suc up) rest (length (heads before))
    pub slot_is : slice_get t.nodes (get_or ms up 0) ≡ Some (inner_content (l ++ x ∷ r))
    pub solid : Solid 4 8 before
    pub fit : FitRow 4 8 (node (get_or ms up 0) (l ++ x ∷ r) ∷ after)
    pub inside : RowIn inner_content t.nodes (before ++ node (get_or ms up 0) (l ++ x ∷ r) ∷ after)
    pub none : count (get_or ms up 0) (numbers before) + count (get_or ms up 0) (numbers after) ≡ 0
    pub none_rest : count (get_or ms up 0) (flat_map numbers rest) ≡ 0
    pub none_chain : count (get_or ms up 0) t.chain ≡ 0
    pub count_is : length (l ++ x ∷ r) ≡ get_or js up 0 + suc (length r)
    pub most_is : length (l ++ x ∷ r) ≤ 8

  spot_at : {t : Table K V} {ms js up size rows : _} (a x b : _) → Above t ms js up size rows (a ++ x ∷ b) (length a) → (o : OnRow t.nodes ms js up size rows (a ++ x ∷ b) (length a))
      → Cut o.entries (get_or js up 0) → Spot t ms js up size rows a x b
  spot_at {t} {ms} {js} {up} {size} {rows} a x b p o c = let n = get_or ms up 0 in
      let whole : a ++ x ∷ b ≡ (flat o.before ++ c.l) ++ c.x ∷ (c.r ++ flat o.after) =
      sym o.flat_is ∙ ap flat o.row_is ∙ ap (λ z. flat (o.before ++ node n z ∷ o.after)) c.es_is ∙ simp (flat-append, append_assoc) in
      let same = cut_same a (flat o.before ++ c.l) x c.x b (c.r ++ flat o.after) whole (omega (arith, length-append (flat o.before) c.l)) in
      let rows_are : rows ≡ (o.before ++ node n (c.l ++ x ∷ c.r) ∷ o.after) ∷ o.rest = cc in
      let w : Above t ms js up size ((o.before ++ node n (c.l ++ x ∷ c.r) ∷ o.after) ∷ o.rest) ((flat o.before ++ c.l) ++ x ∷ (c.r ++ flat o.after)) (length (flat o.before ++ c.l)) =
      rw (rows_are, same.0, same.2) at p in
      let f = FitRow-split 4 8 o.before (node n (c.l ++ x ∷ c.r)) o.after w.stacked.1 in let d = apart_here n _ _ _ _ _ w.apart in
      let full = Solid-full 4 8 (omega arith) o.before f.0 in record {
        before = o.before;
        l = c.l;
        r = c.r;
        after = o.after;
        rest = o.rest;
        rows_are = rows_are;
        a_is = same.0;
        b_is = same.2;
        entry_is = c.place_is;
        whole = w;
        stands = rw full o.over.stands;
        slot_is = (row-split _ _ _ (node n (c.l ++ x ∷ c.r) ∷ o.after) w.inside.0).1.0;
        solid = f.0;
        fit = f.1;
        inside = w.inside.0;
        none = d.0;
        none_rest = d.1;
        none_chain = d.2;
        count_is = omega (arith, length-append c.l (x ∷ c.r), c.place_is);
        most_is = f.1.1;
      }

  pub spot : {t : Table K V} {ms js up size rows : _} (a x b : _) → Above t ms js up size rows (a ++ x ∷ b) (length a) → up < size → Spot t ms js up size rows a x b
  spot {js = js} {up = up} a x b p low = let o = on_row p.over (λ e. omega arith) in spot_at a x b p o (cut o.entries (get_or js up 0) o.within)

module _ {K V : Type 0} where
  -- a tree, cut at the index of a path in its leaf
  pub record LeafCut (most : ℕ) (t : Table K V) (ms js : List ℕ) (tree : Tree K V) (place : ℕ) (l r : List (K × V)) : Type 0 where
    pub before : Row K V
    pub after : Row K V
    pub leaves_are : tree.leaves ≡ before ++ node (get_or ms 0 0) (l ++ r) ∷ after
    pub index_is : length l ≡ get_or js 0 0
    pub place_is : place ≡ length (flat before) + length l
    pub fit : IsFit most (record { leaves = before ++ node (get_or ms 0 0) (l ++ r) ∷ after; above = tree.above })
    pub solid : Solid (half_of most) most before
    pub fits : FitRow (half_of most) most (node (get_or ms 0 0) (l ++ r) ∷ after)
    pub inside : RowIn leaf_content t.nodes (before ++ node (get_or ms 0 0) (l ++ r) ∷ after)
    pub slot_is : slice_get t.nodes (get_or ms 0 0) ≡ Some (leaf_content (l ++ r))
    pub stands : StandsAbove ms js 1 tree.above (length before)
    pub apart : Distinct ((numbers (before ++ node (get_or ms 0 0) (l ++ r) ∷ after) ++ flat_map numbers tree.above) ++ t.chain)
    pub none : count (get_or ms 0 0) (numbers before) + count (get_or ms 0 0) (numbers after) ≡ 0
    pub none_rows : count (get_or ms 0 0) (flat_map numbers tree.above) ≡ 0
    pub none_chain : count (get_or ms 0 0) t.chain ≡ 0

  abbrev pub cut_leaf : {most : ℕ} {t : Table K V} {ms js : List ℕ} {tree : Tree K V} {place : ℕ} (before : Row K V) (entries : List (K × V))
      (after : Row K V) → IsFit most tree → IsIn t.nodes tree → Distinct (numbers_of tree ++ t.chain) →
      tree.leaves ≡ before ++ node (get_or ms 0 0) entries ∷ after →
      get_or js 0 0 ≤ length entries → place ≡ length (flat before) + get_or js 0 0 → StandsAbove ms js 1 tree.above (length before) →
      LeafCut most t ms js tree place (take (get_or js 0 0) entries) (drop (get_or js 0 0) entries)
  cut_leaf {most} {ms} {js} before entries after fit inside apart is within place_is stands =
      let n = get_or ms 0 0 in let l = take (get_or js 0 0) entries in let r = drop (get_or js 0 0) entries in
      let l_is = length-take-le (get_or js 0 0) entries within in
      let row_is = is ∙ ap (λ z. before ++ node n z ∷ after) (sym (take-append-drop _ _)) in let fit_row = rw row_is at fit in
      let apart_row = rw row_is at apart in
      let inside_row = rw row_is at inside.leaves_in in let f = FitRow-split (half_of most) most before (node n (l ++ r)) after fit_row.leaves_fit in
      let d = apart_here n _ _ _ _ _ apart_row in record {
        before = before;
        after = after;
        leaves_are = row_is;
        index_is = l_is;
        place_is = omega arith;
        fit = fit_row;
        solid = f.0;
        fits = f.1;
        inside = inside_row;
        slot_is = (row-split _ _ _ (node n (l ++ r) ∷ after) inside_row).1.0;
        stands = stands;
        apart = apart_row;
        none = d.0;
        none_rows = d.1;
        none_chain = d.2;
      }

-- two paths that agree from a level up stand at the same place there
pub stands-same : {K : Type 0} (ms js ms' js' : List ℕ) (up : ℕ) (rows : Rows K) (p : ℕ) → ((i : ℕ) → up ≤ i → get_or ms' i 0 ≡ get_or ms i 0) → ((i : ℕ) → up ≤ i → get_or js' i 0 ≡ get_or js i 0) → StandsAbove ms js up rows p → StandsAbove ms' js' up rows p
stands-same ms js ms' js' up [] p f g s = s
stands-same ms js ms' js' up (row ∷ rows) p f g s = let fm = f up (omega arith) in let gj = g up (omega arith) in
    let at = s.0 in (
      record { before = at.before; entries = at.entries; after = at.after; row_is = rw fm at.row_is; within = rw gj at.within; place_is = rw gj at.place_is },
      stands-same ms js ms' js' (suc up) rows (length at.before) (λ i low. f i (omega arith)) (λ i low. g i (omega arith)) s.1,
    )
