-- The node on the top level of a path that stands in a tree is the tree's root.
use Rattle.bforest_core.proofs.Words.{◌≡◌, ℕ, suc, ◌+◌, ◌-◌, ◌≤◌, ◌<◌, List, [], ◌∷◌, ◌++◌, length, get_or, refl, sym, ap, ◌∙◌, length-append, arith, Heads}
use Rattle.bforest_core.proofs.Words.{Row, Rows, Table, node, heads, Stacked, Tree, IsFit, half_of, first_number, root_above, root_of, StandsAbove, Stands}
use Rattle.bforest_core.proofs.{Words.{PointsAt, Above, top_of}, rows.LevelRows.{heads-append, FitRow-split, least-pos}}

-- an only node is the first of its level
only : {K : Type 0} (a : Heads K) (x : K × ℕ) (b : Heads K) → length (a ++ x ∷ b) ≡ 1 → first_number (a ++ x ∷ b) ≡ x.1
only [] x b one = refl
only (y ∷ a) x b one = absurd (omega (arith, length-append a (x ∷ b)))

-- an only node of a row is the first of its heads
top_row : {K X : Type 0} {row : Row K X} (before : Row K X) (n es after : _) → row ≡ before ++ node n es ∷ after → 1 ≤ length es → length (heads row) ≡ 1 → first_number (heads row) ≡ n
top_row before n [] after is some one = absurd (omega arith)
top_row before n (e ∷ es) after is some one = let hs = ap heads is ∙ heads-append before (node n (e ∷ es) ∷ after) in cc (only _ _ _ (ap length (sym hs) ∙ one))

-- the root over the rows above a level is the top of a path through them
pub top_rows : {K : Type 0} (hs : Heads K) (ms js : List ℕ) (level : ℕ) (row : Row K ℕ) (rows : Rows K) (place : ℕ) → Stacked hs (row ∷ rows) → StandsAbove ms js level (row ∷ rows) place → root_above hs (row ∷ rows) ≡ get_or ms (level + length rows) 0
top_rows hs ms js level row [] place s st = let at = st.0 in let here : level ≡ level + 0 = omega arith in cc (top_row _ _ _ _ at.row_is (omega arith) s.2)
top_rows hs ms js level row (row2 ∷ rows) place s st = let here : suc level + length rows ≡ level + suc (length rows) = omega arith in
    cc (top_rows (heads row) ms js (suc level) row2 rows (length st.0.before) s.2 st.1)

-- the root over the leaves and the rows above them is the top of the path
pub top_tree : {K V : Type 0} (leaves : Row K V) (above ms js size place before es after : _) → leaves ≡ before ++ node (get_or ms 0 0) es ∷ after → 1 ≤ length es →
    Stacked (heads leaves) above → StandsAbove ms js 1 above place → size ≡ suc (length above) → root_above (heads leaves) above ≡ top_of ms size
top_tree leaves [] ms js size place before es after is some s st size_is = let here : 0 ≡ size - 1 = omega arith in cc (top_row _ _ _ _ is some s)
top_tree leaves (row ∷ rows) ms js size place before es after is some s st size_is =
    let here : 1 + length rows ≡ size - 1 = omega arith in cc (top_rows (heads leaves) ms js 1 row rows place s st)

module _ {K V : Type 0} where
  -- the root of a tree is the top of a path that stands in it
  pub root-stands : {most : ℕ} {tree : Tree K V} {ms js size place : _} → IsFit most tree → Stands ms js size tree place → root_of tree ≡ top_of ms size
  root-stands fit at = top_tree _ _ _ _ _ _ _ _ _ at.leaf.row_is (omega arith) fit.stacked at.above at.size_is

  -- the root of a tree is the top of a path that points to a place in it
  pub root-points : (most : ℕ) (tree : Tree K V) (ms js size place : _) → 1 ≤ most → IsFit most tree → PointsAt ms js size tree place → root_of tree ≡ top_of ms size
  root-points most tree ms js size place one fit at =
      let f = FitRow-split (half_of most) most at.before (node (get_or ms 0 0) at.entries) at.after (rw (← at.leaves_are) fit.leaves_fit) in
      top_tree _ _ _ _ _ _ _ _ _ at.leaves_are (omega (arith, least-pos (half_of most) (omega (arith, one)) at.after)) fit.stacked at.above at.size_is

  -- two paths through the same rows have the same top
  pub top-same : {t : Table K V} {path indices path' indices' level size : _} (rows : _) {list place place' : _} → Above t path indices level size rows list
      place → Above t path' indices' level size rows list place' → level < size → top_of path' size ≡ top_of path size
  top-same [] p q low = absurd (omega arith)
  top-same {path} {indices} {path'} {indices'} {level} {size} (row ∷ rows) {list} {place} {place'} p q low =
      let high : level + length rows ≡ size - 1 = omega arith in
      cc (top_rows list path' indices' level row rows place' q.stacked q.stands, top_rows list path indices level row rows place p.stacked p.stands)
