-- A step of a path from one entry of a tree to the next or the previous one.
use Rattle.bforest_core.proofs.Words.{◌≡◌, ℕ, zero, suc, ◌+◌, ◌-◌, ◌≤◌, ◌<◌, List, [], ◌∷◌, ◌++◌, length, get_or, slice_get, Option, None, Some, refl, sym, ap}
use Rattle.bforest_core.proofs.Words.{option_map, ◌∙◌, arith, Row, length-map, slice_get_within, Content, entry_count, node, flat, heads, Tree, IsFit, half_of}
use Rattle.bforest_core.proofs.Words.{leaf_content, PointsAt, StandsAbove, entry_keys, entry_items, Stands, IsIn, Advances, HasOver, Moved, OnOver, OnTree, Retreats, IsLeafCapacity}
use Rattle.bforest_core.proofs.{walks.Steps.{Within, at_index, last_asks, last_is, there}, walks.RowNodes.{entry_at, node-in, none-behind, seam}}
use Rattle.bforest_core.proofs.{rows.Zipper.stands-same, table.Lists.read_none, table.Stored.some_same}
use Rattle.bforest_core.proofs.{walks.Whole.stands-pointed, rows.LevelRows.some_leaf, walks.TopNode.{SameBut, none_flat}, walks.Reading.{LastAsked, LastRead}}

-- an optional entry, from its key and its value
pub pair_answer : {K X : Type 0} (es : List (K × X)) (i : ℕ) (o : Option (K × X)) → option_map (λ e. e.0) o ≡ slice_get (entry_keys es) i → option_map (λ e. e.1) o ≡ slice_get (entry_items es) i → o ≡ slice_get es i
pair_answer [] i None k x = refl
pair_answer [] i (Some e) k x = absurd cc
pair_answer (y ∷ es) zero None k x = absurd cc
pair_answer (y ∷ es) zero (Some e) k x = ap (λ z. Some (z, e.1)) (some_same k) ∙ ap (λ z. Some (y.0, z)) (some_same x)
pair_answer (y ∷ es) (suc i) o k x = pair_answer es i o k x

-- an entry from its key and its value
pub pair_read : {K X : Type 0} (es : List (K × X)) (i : ℕ) {k : K} {x : X} → slice_get (entry_keys es) i ≡ Some k → slice_get (entry_items es) i ≡ Some x → slice_get es i ≡ Some (k, x)
pair_read es i e f = sym (pair_answer _ i _ (sym e) (sym f))

-- the content read at a path's leaf is that leaf
pub leaf_is : {K V : Type 0} (slots : List (Content K V)) (path r : _) {content : Content K V} (es : List (K × V)) → 0 < length path → slice_get slots (get_or path 0 r) ≡ Some content → slice_get slots (get_or path 0 0) ≡ Some (leaf_content es) → content ≡ leaf_content es
leaf_is slots path r es some found slot = some_same (sym found ∙ at_index _ _ r some refl slot)

-- a leaf has as many entries as keys
pub key_total : {K V : Type 0} (es : List (K × V)) → entry_count (leaf_content es) ≡ length es
key_total es = length-map es (λ w. w.0)

-- a path in the leaf at this index among the leaves
abbrev pub InLeaf : {K V : Type 0} (most : ℕ) (slots : List (Content K V)) (tree : Tree K V) → List ℕ → List ℕ → ℕ → Type 0
InLeaf most slots tree path indices leaf = Within leaf_content slots most path indices 0 tree.leaves tree.above leaf

-- a path with the same nodes, and the same indices but in the leaf, points into the same leaf
module _ {K V : Type 0} {most : ℕ} {slots : List (Content K V)} {tree : Tree K V} {path indices leaf : _} (w : InLeaf most slots tree path indices leaf) {size : ℕ}
    (size_is : size ≡ suc (length tree.above)) {path' : _} (indices' place : _) (path_is : path' ≡ path) (same : SameBut 0 indices indices') where
  abbrev pub points_in : get_or indices' 0 0 ≤ length w.entries → place ≡ length (flat w.before) + get_or indices' 0 0 → PointsAt path' indices' size tree place
  points_in low place_is = record {
    before = w.before;
    entries = w.entries;
    after = w.after;
    leaves_are = cc (w.row_is);
    within = low;
    place_is = place_is;
    above = rw w.at (stands-same _ _ _ _ 1 _ _ (λ i low. ap (λ z. get_or z i 0) path_is) (λ i low. same i (λ e. omega arith)) w.stands);
    size_is = size_is;
  }

  stands_in : get_or indices' 0 0 < length w.entries → place ≡ length (flat w.before) + get_or indices' 0 0 → Stands path' indices' size tree place
  stands_in low place_is = stands-pointed (points_in (omega arith) place_is) low

module _ {K V : Type 0} {most : ℕ} (capacity : IsLeafCapacity most) {slots : List (Content K V)} {tree : Tree K V} (fit : IsFit most tree) (inside : IsIn slots tree) where
  -- the path is in its leaf at this index
  abbrev pub in_leaf : (path indices : _) (before : Row K V) (entries after : _) → tree.leaves ≡ before ++ node (get_or path 0 0) entries ∷ after
      → StandsAbove path indices 1 tree.above (length before) → InLeaf most slots tree path indices (length before)
  in_leaf path indices before entries after row_is above = record { node = node-in _ _ _ _ (some_leaf capacity) _ fit.leaves_fit inside.leaves_in _ _ _ _ _ row_is refl; stands = above }

  -- a path that moved to a leaf is in it
  moved_in : {path indices path1 indices1 : List ℕ} {leaf : ℕ} → Moved path indices path1 indices1 0 tree.above (heads tree.leaves) leaf → InLeaf most slots tree path1 indices1 leaf
  moved_in m = there leaf_content slots most (half_of most) (some_leaf capacity) tree.leaves fit.leaves_fit inside.leaves_in m

  -- a path that moved to the front of the next leaf stands on the next entry
  pub first_behind : {path indices : List ℕ} {leaf : ℕ} (w : InLeaf most slots tree path indices leaf) {size : ℕ} → size ≡ suc (length tree.above) → {path1 indices1 : List ℕ} {path' : List ℕ} (indices' : List ℕ)
      → Moved path indices path1 indices1 0 tree.above (heads tree.leaves) (suc leaf) → path' ≡ path1 → get_or indices' 0 0 ≡ 0 → SameBut 0 indices1 indices'
      → Stands path' indices' size tree (length (flat w.before) + length w.entries)
  first_behind w size_is indices' m path_is here above = let next = moved_in m in
      stands_in next size_is indices' (length (flat w.before) + length w.entries) path_is above (omega (arith, next.some, here)) (omega (arith, here, seam w.node next.node refl))

  -- the last leaf ends at the end of the list
  pub leaf_last : {path indices leaf : _} (w : InLeaf most slots tree path indices leaf) → suc leaf ≡ length (heads tree.leaves) → length (flat w.before) + length w.entries ≡ length (flat tree.leaves)
  leaf_last w last = sym (none-behind w.node (half_of most) (some_leaf capacity) fit.leaves_fit last)

-- from the leaf of a path that stands on an entry
module _ {K V : Type 0} {most : ℕ} (capacity : IsLeafCapacity most) {slots : List (Content K V)} {path indices : List ℕ} {size : ℕ} (s : OnTree most slots path indices size) where
  abbrev pub leaf_here : InLeaf most slots s.tree path indices (length s.leaf.before)
  leaf_here = in_leaf capacity s.fit s.inside _ _ _ _ _ s.leaf.row_is s.above

  abbrev pub over_leaves : HasOver slots path indices 1 size
  over_leaves = (
    s.tree.above,
    heads s.tree.leaves,
    length s.leaf.before,
    record { stacked = s.fit.stacked; inside = s.inside.rows_in; stands = s.above; height = omega arith },
  )

  -- an entry of the leaf is an entry of the list
  entry_is : (i : ℕ) (e : K × V) (at : ℕ) → at ≡ length (flat s.leaf.before) + i
      → ((es : List (K × V)) → slice_get slots (get_or path 0 0) ≡ Some (leaf_content es) → slice_get es i ≡ Some e) → slice_get (flat s.tree.leaves) at ≡ Some e
  entry_is i e at at_is read_is =
      cc (at_is, entry_at s.leaf.before (get_or path 0 0) s.leaf.entries s.leaf.after i s.leaf.row_is (read_is s.leaf.entries leaf_here.slot_is))

  -- the entry at the place, as it was read in the leaf
  pub entry_read : {e : K × V} → ((es : List (K × V)) → slice_get slots (get_or path 0 0) ≡ Some (leaf_content es) → slice_get es (get_or indices 0 0) ≡ Some e)
      → slice_get (flat s.tree.leaves) s.place ≡ Some e
  entry_read {e} read_is = entry_is _ e _ s.leaf.place_is read_is

  module _ {e : K × V} (read_is : (es : List (K × V)) → slice_get slots (get_or path 0 0) ≡ Some (leaf_content es) → Some e ≡ slice_get es (get_or indices 0 0 + 1)) where
    -- the next entry is in the same leaf
    pub next_read : Some e ≡ slice_get (flat s.tree.leaves) (suc s.place)
    next_read = sym (entry_is _ e _ (omega (arith, s.leaf.place_is)) (λ es slot. sym (read_is es slot)))

    pub next_within : {path' : _} (indices' : _) → path' ≡ path → get_or indices' 0 0 ≡ get_or indices 0 0 + 1 → SameBut 0 indices indices' → Stands path' indices' size s.tree (suc s.place)
    next_within indices' path_is here above =
        let low = slice_get_within s.leaf.entries (get_or indices 0 0 + 1) e (sym (read_is s.leaf.entries leaf_here.slot_is)) in
        stands_in leaf_here s.size_is indices' (suc s.place) path_is above (omega arith) (omega (arith, s.leaf.place_is))

  module _ (none : (es : List (K × V)) → slice_get slots (get_or path 0 0) ≡ Some (leaf_content es) → None ≡ slice_get es (get_or indices 0 0 + 1)) where
    -- the leaf has no entry at the next index
    leaf_ends : suc s.place ≡ length (flat s.leaf.before) + length s.leaf.entries
    leaf_ends = omega (arith, s.leaf.place_is, s.leaf.within, read_none s.leaf.entries (get_or indices 0 0 + 1) (none s.leaf.entries leaf_here.slot_is))

    -- the next entry is the first of the next leaf
    pub next_over : {path1 indices1 path' : List ℕ} (indices' : List ℕ) → Advances slots path indices path1 indices1 0 size → path' ≡ path1
        → get_or indices' 0 0 ≡ 0 → SameBut 0 indices1 indices' → Stands path' indices' size s.tree (suc s.place)
    next_over indices' moved path_is here above =
        rw leaf_ends (first_behind capacity s.fit s.inside leaf_here s.size_is indices' (moved _ _ _ over_leaves.3) path_is here above)

    -- where no leaf follows, the path stands on the last entry
    pub next_last : OnOver slots path indices 1 size (λ rows list at. suc at ≡ length list) → suc s.place ≡ length (flat s.tree.leaves)
    next_last last = leaf_ends ∙ leaf_last capacity s.fit s.inside leaf_here (last _ _ _ over_leaves.3)

  -- the previous entry is in the same leaf
  pub back_within : {path' : _} (indices' : _) → path' ≡ path → 0 < get_or indices 0 0 → get_or indices' 0 0 ≡ get_or indices 0 0 - 1 → SameBut 0 indices indices'
      → (0 < s.place) × Stands path' indices' size s.tree (s.place - 1)
  back_within indices' path_is some here above = (
    omega (arith, s.leaf.place_is),
    stands_in leaf_here s.size_is indices' (s.place - 1) path_is above (omega (arith, s.leaf.within)) (omega (arith, s.leaf.place_is)),
  )

  module _ {path1 indices1 : _} (backs : Retreats slots path indices path1 indices1 0 size) (r : ℕ) (wide : 0 < length path1) where
    went : (0 < length s.leaf.before) × Moved path indices path1 indices1 0 s.tree.above (heads s.tree.leaves) (length s.leaf.before - 1)
    went = backs _ _ _ over_leaves.3

    -- the previous leaf
    back_leaf : InLeaf most slots s.tree path1 indices1 (length s.leaf.before - 1)
    back_leaf = moved_in capacity s.fit s.inside went.1

    -- the previous leaf meets what reading its last index requires
    pub back_asks : LastAsked slots (get_or path1 0 r)
    back_asks = last_asks back_leaf key_total r wide

    -- the previous entry is the last of the previous leaf
    pub back_over : {path' : _} (indices' : _) {last : ℕ} → LastRead slots (get_or path1 0 r) last → path' ≡ path1 → get_or indices 0 0 ≤ 0
        → get_or indices' 0 0 ≡ last → SameBut 0 indices1 indices' → (0 < s.place) × Stands path' indices' size s.tree (s.place - 1)
    back_over indices' says path_is none here above =
        let last_at = last_is back_leaf key_total r wide says in let seam_is = seam back_leaf.node leaf_here.node (omega (arith, went.0)) in
        let at = s.leaf.place_is in (omega arith, stands_in back_leaf s.size_is indices' (s.place - 1) path_is above (omega arith) (omega arith))

  -- where there is no previous leaf, the path stands on the first entry
  pub back_first : OnOver slots path indices 1 size (λ rows list at. at ≡ 0) → get_or indices 0 0 ≤ 0 → s.place ≡ 0
  back_first first none = omega (arith, s.leaf.place_is, none_flat _ (first _ _ _ over_leaves.3))
