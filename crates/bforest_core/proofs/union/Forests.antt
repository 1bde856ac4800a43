-- The trees of a table as a witness and as computed: the roots are the roots of the trees.
use Rattle.bforest_core.proofs.Words.{◌≡◌, ℕ, ◌+◌, ◌≤◌, ◌<◌, ◌↔◌, nat_eq, IsTrue, true, false, List, [], ◌∷◌, ◌++◌, map, length, None, refl, sym, ap, ◌∙◌, inl}
use Rattle.bforest_core.proofs.Words.{inr, arith, IsLeafCapacity, nil_from_length, flat_map, map-append, get_or_past, flat_map-append, and_parts, cases_lt}
use Rattle.bforest_core.proofs.Words.{eqb_tells, Content, Inner, Leaf, Free, IsFree, children_of, Table, flat, heads, numbers, Stacked, Tree, IsFit, half_of}
use Rattle.bforest_core.proofs.Words.{IsRooted, RowsIn, IsIn, entry_items, count, root_above, root_of, numbers_of, slot, is_used, tree_of, is_root, Every}
use Rattle.bforest_core.proofs.{Words.IsForest, union.FreeSlots.free-at, walks.TopNode.node_under, walks.Whole.root-node}
use Rattle.bforest_core.proofs.{rows.Counts.{below-one, past-none, at-most-one, named_by, all-named}, table.Tables.{count-append, count-same, count-other}}
use Rattle.bforest_core.proofs.{table.Read.{items-heads, half-some, slot-is, children-row, children-leaves, read-back}, table.Stored.{childless, inner_used}}

-- what holds of every element of a list holds of each of its parts
pub every-append : {X : Type 0} (P : X → Type 0) (xs ys : List X) → Every P (xs ++ ys) → Every P xs × Every P ys
every-append P [] ys e = (tt, e)
every-append P (x ∷ xs) ys e = let r = every-append P xs ys e.1 in ((e.0, r.0), r.1)

-- what holds of every element of two lists holds of their concatenation
pub every-join : {X : Type 0} (P : X → Type 0) (xs ys : List X) → Every P xs → Every P ys → Every P (xs ++ ys)
every-join P [] ys a b = b
every-join P (x ∷ xs) ys a b = (a.0, every-join P xs ys a.1 b)

module _ {K V : Type 0} where
  -- the nodes above a level name the nodes of that level and each other, but not the root
  named_rows : (slots : List (Content K V)) (hs rows : _) → Stacked hs rows → RowsIn slots rows → (m : ℕ) →
      count m (named_by slots (flat_map numbers rows)) + count m (root_above hs rows ∷ []) ≡ count m (entry_items hs) + count m (flat_map numbers rows)
  named_rows slots [] [] s i m = absurd (omega arith)
  named_rows slots (x ∷ []) [] s i m = omega arith
  named_rows slots (x ∷ y ∷ hs) [] s i m = absurd (omega arith)
  named_rows slots hs (row ∷ rows) s i m = let ih = named_rows slots (heads row) rows s.2 i.1 m in
      let a = ap (count m) (flat_map-append (λ k. children_of (slot slots k)) _ _) ∙ count-append m (named_by slots (numbers row)) (named_by slots (flat_map numbers rows)) in
      let b = ap (count m) (children-row slots row i.0 ∙ ap entry_items s.0) in let c = ap (count m) (items-heads 4 8 (omega arith) row s.1) in
      omega (arith, count-append)

  -- each number of a tree but its root is named by one node of the tree, and no other number is
  named_tree : {most slots : _} {tree : Tree K V} → IsFit most tree → IsIn slots tree → 1 ≤ length (flat tree.leaves) → (m : ℕ) →
      count m (named_by slots (numbers_of tree)) + count m (root_of tree ∷ []) ≡ count m (numbers_of tree)
  named_tree {most} {slots} {tree} f i some m = let r = named_rows _ _ _ f.stacked i.rows_in m in
      let a = ap (count m) (flat_map-append (λ k. children_of (slot slots k)) _ _) ∙ count-append m (named_by slots (numbers tree.leaves)) (named_by slots (flat_map numbers tree.above)) in
      let b = ap (count m) (children-leaves slots tree.leaves i.leaves_in) in
      let c = ap (count m) (items-heads (half_of most) most (half-some most tree.leaves f.leaves_fit some) tree.leaves f.leaves_fit) in
      omega (arith, count-append)

  -- the root of a tree is one of its numbers
  pub root-among : (most slots : _) (tree : Tree K V) → IsFit most tree → IsIn slots tree → 1 ≤ length (flat tree.leaves) → 0 < count (root_of tree) (numbers_of tree)
  root-among most slots tree f i some = omega (arith, named_tree f i some (root_of tree), count-same (root_of tree) [])

  -- each number of some trees but their roots is named by one of their nodes, and no other number is
  named_trees : (most : ℕ) (slots : List (Content K V)) (trees : List (Tree K V)) → Every (IsFit most) trees → Every (IsIn slots) trees → Every (λ tree. 1 ≤ length (flat tree.leaves)) trees → (m : ℕ) →
      count m (named_by slots (flat_map numbers_of trees)) + count m (map root_of trees) ≡ count m (flat_map numbers_of trees)
  named_trees most slots [] f i some m = omega arith
  named_trees most slots (tree ∷ trees) f i some m = let one = named_tree f.0 i.0 some.0 m in let ih = named_trees most slots trees f.1 i.1 some.1 m in
      let a = ap (count m) (flat_map-append (λ k. children_of (slot slots k)) _ _) ∙ count-append m (named_by slots (numbers_of tree)) (named_by slots (flat_map numbers_of trees)) in
      omega (arith, count-append)

  -- a free slot names no node
  no_children : (content : Content K V) → IsFree content → children_of content ≡ []
  no_children content f = nil_from_length _ (sym (childless _ (λ inner. (inner_used _ inner).0 f)))

  -- a free slot is no node
  pub free-unused : (content : Content K V) → IsFree content → is_used content ≡ false
  free-unused (Inner keys children) f = absurd f
  free-unused (Leaf keys vals) f = absurd f
  free-unused (Free next) f = refl

  -- free slots name no nodes
  named_free : (slots : List (Content K V)) (ms : _) → Every (λ m. IsFree (slot slots m)) ms → named_by slots ms ≡ []
  named_free slots [] f = refl
  named_free slots (m ∷ ms) f = let e = no_children _ f.0 in rw e (named_free slots ms f.1)

  -- the root of a tree is a node
  root_used : {most : ℕ} → IsLeafCapacity most → (slots : List (Content K V)) (tree : _) → IsRooted most slots (root_of tree) tree → is_used (slot slots (root_of tree)) ≡ true
  root_used capacity slots tree r = elim (node_under capacity (root-node r)) [ inl w ↦ ap is_used (slot-is slots (root_of tree) w.slot_is) | inr w ↦ ap is_used (slot-is slots (root_of tree) w.slot_is) ]

  -- the slots of a table name each number of its trees except the roots
  named_all : {most : _} {table : Table K V} {trees : _} → IsForest most table trees → (m : ℕ) → count m (flat_map children_of table.nodes) + count m (map root_of trees) ≡ count m (flat_map numbers_of trees)
  named_all {table} {trees} f m = let a = all-named _ _ f.account m in
      let b = ap (count m) (flat_map-append (λ k. children_of (slot table.nodes k)) _ _) ∙ count-append m (named_by table.nodes (flat_map numbers_of trees)) (named_by table.nodes table.chain) in
      let c = ap (count m) (named_free table.nodes table.chain f.free) in omega (arith, named_trees _ _ _ f.fit f.inside f.some m)

  -- a number occurs in the trees or on the chain at most once
  pub once : {most : _} {table : Table K V} {trees : _} → IsForest most table trees → (m : ℕ) → count m (flat_map numbers_of trees) + count m table.chain ≤ 1
  once {table} f m = omega (arith, f.account m, at-most-one, count-append)

  -- a number in the trees or on the chain is that of a slot
  pub within-slots : {most : _} {table : Table K V} {trees : _} → IsForest most table trees → (m : ℕ) → 0 < count m (flat_map numbers_of trees) + count m table.chain → m < length table.nodes
  within-slots {table} f m some =
      elim (cases_lt m (length table.nodes)) [ inl low ↦ low | inr past ↦ absurd (omega (arith, f.account m, past-none m _ past, count-append)) ]

  -- no two trees have the same root
  pub roots-once : {most : _} (table : Table K V) {trees : _} → IsForest most table trees → (m : ℕ) → count m (map root_of trees) ≤ 1
  roots-once table f m = omega (arith, named_all f m, once f m)

  -- a node is within the slots
  pub used_within : (slots : List (Content K V)) (m : ℕ) → is_used (slot slots m) ≡ true → m < length slots
  used_within slots m used =
      elim (cases_lt m (length slots)) [ inl low ↦ low | inr past ↦ absurd (let e = ap is_used (get_or_past slots m (Free None) past) in cc) ]

  -- the trees, cut at the tree of a root
  pub tree-with : (trees : List (Tree K V)) (m : ℕ) → 0 < count m (map root_of trees) → (before : List (Tree K V)) × (tree : _) × (after : List (Tree K V)) × (trees ≡ before ++ tree ∷ after) × (root_of tree ≡ m)
  tree-with [] m some = absurd (omega arith)
  tree-with (tree ∷ trees) m some = elim (eqb_tells (root_of tree) m) [
    | inl w ↦ ([], tree, trees, refl, w.1)
    | inr w ↦ (let r = tree-with trees m (omega (arith, count-other m (root_of tree) (map root_of trees) w.1)) in (tree ∷ r.0, r.1, r.2, ap (λ z. tree ∷ z) r.3, r.4))
  ]

  -- a tree of the witness is computed from its root, which is a root of the table
  pub tree-back : {most : _} {table : Table K V} {trees : _} (before : List (Tree K V)) (tree : Tree K V) (after : List (Tree K V)) (root : ℕ) → IsForest most table trees → trees ≡ before ++ tree ∷ after → root_of tree ≡ root →
      (tree_of table.nodes root ≡ tree) × IsTrue (is_root table.nodes root)
  unfolding is_root
  tree-back {most} {table} before tree after root given split is =
      let f = rw split at given in let fit = (every-append (IsFit most) before (tree ∷ after) f.fit).1.0 in
      let inside = (every-append (IsIn table.nodes) before (tree ∷ after) f.inside).1.0 in
      let some = (every-append (λ tree. 1 ≤ length (flat tree.leaves)) before (tree ∷ after) f.some).1.0 in
      let low = (every-append (λ tree. length tree.above ≤ 16) before (tree ∷ after) f.low).1.0 in let m = root_of tree in
      let here = ap (count m) (map-append root_of before (tree ∷ after)) ∙ count-append m (map root_of before) (m ∷ map root_of after) in
      let none : count m (flat_map children_of table.nodes) ≡ 0 = omega (arith, count-same m (map root_of after), named_all f m, once f m) in
      let used = root_used f.capacity table.nodes tree (record { fit = fit; inside = inside; root_is = refl; some = some; low = low }) in
      rw (← is) (read-back most tree fit inside some low, rw (used, none) refl)

  -- a number is a root exactly if it is the root of one of the trees
  pub root-counts : {most : _} {table : Table K V} {trees : _} → IsForest most table trees → (m : ℕ) → IsTrue (is_root table.nodes m) ↔ (0 < count m (map root_of trees))
  unfolding is_root
  root-counts {table} {trees} f m = (
    λ root. (
        let parts = and_parts (is_used _) (nat_eq (count m (flat_map children_of table.nodes)) 0) root in
        let none : count m (flat_map children_of table.nodes) ≡ 0 = elim (eqb_tells (count m (flat_map children_of table.nodes)) 0) [ inl w ↦ w.1 | inr w ↦ absurd (let e = w.0 in let d = parts.1 in cc) ] in
        let low = used_within _ m parts.0 in
        let off : count m table.chain ≡ 0 = elim (cases_lt 0 (count m table.chain)) [ inl on ↦ absurd (let e = free-unused _ (free-at _ _ f.free m on) in let d = parts.0 in cc) | inr off ↦ omega arith ] in
        omega (arith, f.account m, below-one, count-append, named_all f m)
        ),
    λ some. (let r = tree-with trees m some in (tree-back r.0 r.1 r.2 m f r.3 r.4).1),
  )
