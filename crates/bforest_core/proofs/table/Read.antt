-- A tree in a table equals the tree that is computed from the table at its root.
use Rattle.bforest_core.proofs.Words.{◌≡◌, ℕ, suc, ◌+◌, ◌-◌, ◌≤◌, List, [], ◌∷◌, ◌++◌, map, length, slice_get, Some, refl, sym, ap, ◌∙◌, arith, Row, flat_map}
use Rattle.bforest_core.proofs.Words.{zip, length-map, map-append, take_at, drop_at, get_or_from_slice_get, Content, children_of, node, flat, heads, numbers}
use Rattle.bforest_core.proofs.Words.{FitRow, Stacked, Tree, IsFit, half_of, RowIn, RowsIn, IsIn, leaf_content, inner_content, entry_keys, entry_items}
use Rattle.bforest_core.proofs.{Words.{root_above, root_of, slot, entries_of, levels_below, leaf_row, inner_row, inner_rows, tree_of}, rows.LevelRows.least-pos}

-- the heads of a row have its numbers
pub items-heads : {K X : Type 0} (half most : ℕ) → 1 ≤ half → (row : Row K X) → FitRow half most row → entry_items (heads row) ≡ numbers row
items-heads half most one [] f = refl
items-heads half most one (node m [] ∷ ns) f = absurd (omega (arith, least-pos half one ns))
items-heads half most one (node m (e ∷ es) ∷ ns) f = cc (items-heads half most one ns f.2)

-- a row with an entry has a head
pub heads-some : {K X : Type 0} (row : Row K X) → 1 ≤ length (flat row) → 1 ≤ length (heads row)
heads-some [] some = absurd (omega arith)
heads-some (node m [] ∷ ns) some = heads-some ns some
heads-some (node m (e ∷ es) ∷ ns) some = omega arith

-- a fit row with an entry has a capacity of at least one
pub most-some : {K X : Type 0} (half most : ℕ) (row : Row K X) → FitRow half most row → 1 ≤ length (flat row) → 1 ≤ most
most-some half most [] f some = absurd (omega arith)
most-some half most (node m [] ∷ ns) f some = most-some half most ns f.2 some
most-some half most (node m (e ∷ es) ∷ ns) f some = omega arith

-- a fit row with an entry has nodes whose half is at least one
pub half-some : {K X : Type 0} (most : ℕ) (row : Row K X) → FitRow (half_of most) most row → 1 ≤ length (flat row) → 1 ≤ half_of most
half-some most row f some = let one = most-some _ _ _ f some in omega arith

-- the entries of a leaf are read back from its keys and values
pub zip-back : {K X : Type 0} (es : List (K × X)) → zip (entry_keys es) (entry_items es) ≡ es
zip-back [] = refl
zip-back (e ∷ es) = cc (zip-back es)

module _ {K V : Type 0} where
  -- the content of a slot that is read
  pub slot-is : (slots : List (Content K V)) (m : _) {content : _} → slice_get slots m ≡ Some content → slot slots m ≡ content
  slot-is slots m found = get_or_from_slice_get _ m _ _ found

  -- the children of a row are the items of its entries
  pub children-row : (slots : List (Content K V)) (row : _) → RowIn inner_content slots row → flat_map (λ m. children_of (slot slots m)) (numbers row) ≡ entry_items (flat row)
  children-row slots [] i = refl
  children-row slots (node m es ∷ ns) i =
      rw (slot-is _ m i.0, map-append (λ (e : K × ℕ). e.1) _ _) (ap (λ z. entry_items es ++ z) (children-row slots ns i.1))

  -- leaves have no children
  pub children-leaves : (slots : List (Content K V)) (row : _) → RowIn leaf_content slots row → flat_map (λ m. children_of (slot slots m)) (numbers row) ≡ []
  children-leaves slots [] i = refl
  children-leaves slots (node m es ∷ ns) i = rw (slot-is _ m i.0) (children-leaves slots ns i.1)

  -- one level down, from the nodes of a level to their children
  down-row : (slots : List (Content K V)) (f ms cs up : _) → flat_map (λ m. children_of (slot slots m)) ms ≡ cs → 1 ≤ length cs → levels_below slots (suc f) ms up ≡ levels_below slots f cs (ms ∷ up)
  down-row slots f ms [] up e one = absurd (omega arith)
  down-row slots f ms (c ∷ cs) up e one = rw (e, levels_below) refl

  down-all : (slots : List (Content K V)) (f hs rows : _) → Stacked hs rows → RowsIn slots rows → 1 ≤ length hs →
      levels_below slots (f + length rows) (root_above hs rows ∷ []) [] ≡ levels_below slots f (entry_items hs) (map numbers rows)
  down-all slots f [] [] s i one = absurd (omega arith)
  down-all slots f (x ∷ []) [] s i one = let e : f + 0 ≡ f = omega arith in rw e refl
  down-all slots f (x ∷ y ∷ hs) [] s i one = absurd (omega arith)
  down-all slots f hs (row ∷ rows) s i one = let r = down-all slots (suc f) (heads row) rows s.2 i.1 (heads-some row (omega (arith, ap length s.0))) in
      let e : f + suc (length rows) ≡ suc f + length rows = omega arith in let c = children-row slots row i.0 ∙ ap entry_items s.0 in
      rw e (r ∙ rw (items-heads 4 8 (omega arith) row s.1) (down-row _ f _ _ _ c (rw length-map one)))

  -- the row of the leaves is read back
  leaves-back : (slots : List (Content K V)) (row : _) → RowIn leaf_content slots row → leaf_row slots (numbers row) ≡ row
  leaves-back slots [] l = refl
  leaves-back slots (node m es ∷ ns) l = rw ((ap entries_of (slot-is _ m l.0) ∙ zip-back es), leaves-back slots ns l.1) refl

  inners-back : (slots : List (Content K V)) (row : _) → RowIn inner_content slots row → inner_row slots (flat row) (numbers row) ≡ row
  inners-back slots [] i = refl
  inners-back slots (node m es ∷ ns) i = let a = ap (λ z. length (children_of z)) (slot-is _ m i.0) ∙ length-map es (λ e. e.1) in
      rw (a, take_at es (flat ns) (length es) refl, drop_at es (flat ns) (length es) refl, inners-back slots ns i.1) refl

  rows-back : (slots : List (Content K V)) (hs rows : _) → Stacked hs rows → RowsIn slots rows → inner_rows slots hs (map numbers rows) ≡ rows
  rows-back slots hs [] s i = refl
  rows-back slots hs (row ∷ rows) s i =
      rw ((ap (λ z. inner_row slots z (numbers row)) (sym s.0) ∙ inners-back _ _ i.0), rows-back slots (heads row) rows s.2 i.1) refl

  -- a fit tree with an entry, at most 17 levels high, is computed from any table that it is in
  pub read-back : (most : _) {slots : _} (tree : Tree K V) → IsFit most tree → IsIn slots tree → 1 ≤ length (flat tree.leaves) → length tree.above ≤ 16 → tree_of slots (root_of tree) ≡ tree
  unfolding tree_of
  read-back most {slots} tree fit inside some low = let one = half-some most tree.leaves fit.leaves_fit some in let g = (17 - length tree.above) - 1 in
      let ef : 17 ≡ suc g + length tree.above = omega arith in let d = down-all _ _ _ _ fit.stacked inside.rows_in (heads-some tree.leaves some) in
      let a : levels_below slots 17 (root_of tree ∷ []) [] ≡ numbers tree.leaves ∷ map numbers tree.above =
      ap (λ z. levels_below slots z (root_of tree ∷ []) []) ef ∙ d ∙ ap (λ z. levels_below slots (suc g) z (map numbers tree.above)) (items-heads _ _ one _ fit.leaves_fit) ∙ (let e = children-leaves slots tree.leaves inside.leaves_in in rw (e, levels_below) refl) in
      rw a (let b = leaves-back slots tree.leaves inside.leaves_in in rw (b, rows-back _ _ _ fit.stacked inside.rows_in) refl)
