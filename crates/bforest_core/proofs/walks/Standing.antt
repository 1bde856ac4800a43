-- A path at a place of the list under a root.
use Rattle.bforest_core.proofs.Words.{◌≡◌, ◌≢◌, ℕ, zero, suc, ◌+◌, ◌-◌, ◌==◌, ◌≤◌, ◌<◌, ◌↔◌, Bool, IsTrue, true, false, Some, slice_get, if◌then◌else◌, List}
use Rattle.bforest_core.proofs.Words.{[], ◌∷◌, ◌++◌, get_or, length, length-append, inl, inr, refl, sym, subst, ap, ◌∙◌, arith, Heads, Row, flat_map}
use Rattle.bforest_core.proofs.Words.{false≢true, eqb_tells, Path, PointsTo, StandsAt, StandsOn, index_of, leaf_of, list_under, path_root, place_in, spot}
use Rattle.bforest_core.proofs.Words.{IsLeaf, AtUnder, StandsUnder, IsRooted, NodeOver, OnTree, Tree, flat, HasBelow, Led, OnBelow, heads, length-map, node, numbers}
use Rattle.bforest_core.proofs.Words.{sizes, sizes_of, IsPathAt, PointsAt, Stands, count, leaf_content, numbers_of, Advances, HasOver, OnOver, Table, IsUnion}
use Rattle.bforest_core.proofs.{Words.{is_root, slot, tree_of}, walks.Backward.{at_end, at_entry}, rows.LevelRows.flat-append, union.Unions.{is-rooted, rooted}}
use Rattle.bforest_core.proofs.{walks.Whole.{led_stands, stands-pointed, root-node}, walks.Entered.{InLeaf, first_behind, in_leaf, leaf_here, leaf_last}}
use Rattle.bforest_core.proofs.{walks.Leading.leaf_up, table.Read.slot-is, rows.Tops.root-points, walks.Steps.not_less}
use Rattle.bforest_core.proofs.{walks.TopNode.{SameBut, node_under, none_flat, head_at}, table.Tables.{absent_ne, count-append, count-row, count-same}}
use Rattle.bforest_core.specs.Paths.{IsPlaced}

module _ {K V : Type 0} (path indices : _) (tree : Tree K V) (place : ℕ) where
  -- a path that stands on an entry points to it
  abbrev pub points-stands : {size : ℕ} → Stands path indices size tree place → PointsAt path indices size tree place
  points-stands s = record {
    before = s.leaf.before;
    entries = s.leaf.entries;
    after = s.leaf.after;
    leaves_are = s.leaf.row_is;
    within = omega arith;
    place_is = s.leaf.place_is;
    above = s.above;
    size_is = s.size_is;
  }

  -- a path that stands on an entry is at it
  pub path-on : (size : ℕ) → Stands path indices size tree place → IsPathAt path indices size tree place
  path-on zero s = absurd (omega arith)
  path-on (suc size) s = s

  -- a path without nodes is at the end
  pub path-ended : (size : ℕ) → size ≡ 0 → place ≡ length (flat tree.leaves) → IsPathAt path indices size tree place
  path-ended zero none e = e
  path-ended (suc size) none e = absurd (omega arith)

-- a root, as a node over the leaves of its tree
abbrev pub under-root : {K V : Type 0} {most : ℕ} {table : Table K V} (root : ℕ) → IsUnion most table → IsTrue (is_root table.nodes root)
    → NodeOver most table.nodes (tree_of table.nodes root).leaves root
under-root root union is = root-node (is-rooted root union is)

-- the level of a root, and the number of levels of a path in its tree
pub root-level : {K V : Type 0} (tree : Tree K V) {levels : ℕ} → levels ≡ length (sizes_of tree) → levels - 1 ≡ length tree.above
root-level tree is = omega (arith, length-map tree.above sizes)

pub path-levels : {K V : Type 0} (tree : Tree K V) {levels size : ℕ} → levels ≡ length (sizes_of tree) → size ≡ levels → size ≡ suc (length tree.above)
path-levels tree is same = omega (arith, length-map tree.above sizes)

-- a path that descended on one side from a root stands there
module _ {K V : Type 0} {most : ℕ} {table : Table K V} (root : ℕ) (union : IsUnion most table) (is : IsTrue (is_root table.nodes root)) {levels : ℕ} (levels_is : levels ≡ length (sizes_of (tree_of table.nodes root))) (Side : Heads K → Heads K → Type 0) (side : Side [] []) where
  -- what the descent requires
  pub root-below : HasBelow most table.nodes Side root (levels - 1)
  root-below = ((tree_of table.nodes root).leaves, under-root root union is, side, root-level (tree_of table.nodes root) levels_is)

  pub led-root : (place : Row K V → ℕ) {size path indices path' indices' : _} → size ≡ levels →
      OnBelow most table.nodes Side root (levels - 1) (λ leaves lower top. Led leaves lower (place leaves) top path indices path' indices') →
      StandsUnder table.nodes root path' indices' size (place (tree_of table.nodes root).leaves)
  led-root place size_is leads = let tree = tree_of table.nodes root in let d = leads tree.leaves (under-root root union is) side (root-level tree levels_is) in
      record { root_is = is; stands = led_stands _ _ d (path-levels tree levels_is size_is) }

-- a path of one level at the front of a root that is a leaf is on the first entry
pub on-leaf : {K V : Type 0} {most : ℕ} (table : Table K V) (root : ℕ) (path indices : List ℕ) → IsUnion most table → IsTrue (is_root table.nodes root) → IsLeaf (slot table.nodes root) → get_or path 0 0 ≡ root → get_or indices 0 0 ≡ 0 → StandsUnder table.nodes root path indices 1 0
on-leaf table root path indices union is leaf node_is index_is =
    elim (node_under union.1.capacity (under-root root union is)) [
      | inl s ↦ (
          let d : Led (tree_of table.nodes root).leaves (tree_of table.nodes root).above 0 0 path indices path indices = record {
            leaf = head_at s.at node_is index_is (omega arith) (omega (arith, none_flat _ s.before_is));
            up = leaf_up s (λ i ne. refl) (λ i ne. refl);
          } in
          record { root_is = is; stands = led_stands _ 1 d (sym (ap (λ z. suc (length z)) s.lower_is)) }
          )
      | inr s ↦ absurd (subst IsLeaf (slot-is table.nodes root s.slot_is) leaf)
    ]

module _ {K X : Type 0} where
  -- the place of an entry, from the number of its node, which does not occur earlier
  place_by : (before : Row K X) (n es after index : _) → count n (numbers before) ≡ 0 → place_in (before ++ node n es ∷ after) n index ≡ length (flat before) + index
  place_by [] n es after index none =
      elim (eqb_tells n n) [ inl w ↦ (let z : index ≡ 0 + index = omega arith in (λ j. if w.0 j then index else length es + place_in after n index) ∙ z) | inr w ↦ absurd (w.1 refl) ]
  place_by (node m xs ∷ before) n es after index none = let ih = place_by before n es after index (omega arith) in
      elim (eqb_tells m n) [
        | inl w ↦ absurd (absent_ne n m _ none (sym w.1))
        | inr w ↦ (λ j. if w.0 j then index else length xs + place_in (before ++ node n es ∷ after) n index) ∙ omega (arith, length-append xs (flat before))
      ]

module _ {K V : Type 0} {n : ℕ} (table : Table K V) {root : ℕ} (path : Path K V n) {place : ℕ} where
  -- the place of a path that stands on an entry is less than the length
  pub on-within : StandsOn table root path place → place < length (list_under table root)
  on-within on = let at = on.stands.leaf in
      omega (arith, ap (λ z. length (flat z)) at.row_is, ap length (flat-append at.before (node (leaf_of path) at.entries ∷ at.after)), length-append (flat at.before) (at.entries ++ flat at.after), length-append at.entries (flat at.after))

  -- a path that stands on an entry is at its place
  pub on-at : StandsOn table root path place → StandsAt table root path place
  on-at on = record { root_is = on.root_is; at = path-on _ path.entry (tree_of table.nodes root) place path.size on.stands }

  -- a path at a place before the end is on the entry there
  pub at-on : StandsAt table root path place → place < length (list_under table root) → StandsOn table root path place
  at-on s low =
      let some : path.size ≢ 0 = λ none. omega (arith, low, at_end _ _ _ _ _ none s.at) in record { root_is = s.root_is; stands = at_entry _ _ _ _ _ some s.at }

  -- a path that stands on an entry points to its place
  pub on-points : StandsOn table root path place → PointsTo table root path place
  on-points on = record { root_is = on.root_is; points = points-stands path.node path.entry (tree_of table.nodes root) place on.stands }

  pub placed-points : IsPlaced table root path place → PointsTo table root path place
  placed-points p = record { root_is = p.root_is; points = p.at.points }

-- a path on an entry, in a union of trees
module _ {K V : Type 0} {n : ℕ} {table : Table K V} (union : IsUnion n table) {root place : ℕ} (path : Path K V n) (on : StandsOn table root path place) where
  -- the path stands on the tree under the root
  abbrev pub on-tree : OnTree n table.nodes path.node path.entry path.size
  on-tree = let r = is-rooted root union on.root_is in record { tree = tree_of table.nodes root; place = place; fit = r.fit; inside = r.inside; stands = on.stands }

  -- the path's leaf, and the rows above it
  abbrev pub on-leaf-in : InLeaf n table.nodes (tree_of table.nodes root) path.node path.entry (length on.stands.leaf.before)
  on-leaf-in = leaf_here union.1.capacity on-tree

  -- the path meets what a step requires
  pub on-asks : (path.size ≤ 17) × OnTree n table.nodes path.node path.entry path.size
  on-asks = (omega (arith, (is-rooted root union on.root_is).low), on-tree)

-- a path at an entry of a leaf, or past a leaf's last one
module _ {K V : Type 0} {n : ℕ} {table : Table K V} (union : IsUnion n table) {root place : ℕ} (path : Path K V n) (to : PointsTo table root path place) where
  abbrev tree_is : IsRooted n table.nodes root (tree_of table.nodes root)
  tree_is = is-rooted root union to.root_is

  abbrev pointed : InLeaf n table.nodes (tree_of table.nodes root) path.node path.entry (length to.points.before)
  pointed = in_leaf union.1.capacity tree_is.fit tree_is.inside path.node path.entry to.points.before to.points.entries to.points.after to.points.leaves_are to.points.above

  -- the content of the leaf's slot
  pub pointed-leaf : (entries : List (K × V)) × (slice_get table.nodes (leaf_of path) ≡ Some (leaf_content entries))
  pointed-leaf = (to.points.entries, pointed.slot_is)

  abbrev pointed-over : HasOver table.nodes path.node path.entry 1 path.size
  pointed-over = (
    (tree_of table.nodes root).above,
    heads (tree_of table.nodes root).leaves,
    length to.points.before,
    record { stacked = tree_is.fit.stacked; inside = tree_is.inside.rows_in; stands = to.points.above; height = omega arith },
  )

  -- the rows above the leaf
  pub pointed-above : (path.size ≤ 17) × HasOver table.nodes path.node path.entry 1 path.size
  pointed-above = (omega (arith, tree_is.low), pointed-over)

  module _ {has : Bool} (test : (entries : List (K × V)) → slice_get table.nodes (leaf_of path) ≡ Some (leaf_content entries) → IsTrue has ↔ (index_of path < length entries)) where
    -- the path is at an entry of the leaf
    pub pointed-here : has ≡ true → StandsAt table root path place
    pointed-here is = on-at table path (record { root_is = to.root_is; stands = stands-pointed to.points ((test to.points.entries pointed.slot_is).0 is) })

    behind : has ≡ false → place ≡ length (flat to.points.before) + length to.points.entries
    behind none = omega (arith, not_less (index_of path) (length to.points.entries) (λ low. false≢true (sym none ∙ (test to.points.entries pointed.slot_is).1 low)))

    -- past a leaf's last entry, the first of the next leaf is at the same place
    pub pointed-next : has ≡ false → (moved new : Path K V n) → Advances table.nodes path.node path.entry moved.node moved.entry 0 path.size →
        new.node ≡ moved.node → get_or new.entry 0 0 ≡ 0 → SameBut 0 moved.entry new.entry → new.size ≡ path.size → StandsAt table root new place
    pointed-next none moved new goes nodes here above size = let m = goes _ _ _ pointed-over.3 in
        let s = first_behind union.1.capacity tree_is.fit tree_is.inside pointed (cc) new.entry m nodes here above in on-at table new (record {
          root_is = to.root_is;
          stands = rw ((behind none)) s;
        })

    -- past the last entry of all, the path is at the end
    pub pointed-last : has ≡ false → OnOver table.nodes path.node path.entry 1 path.size (λ rows list at. suc at ≡ length list) → (nodes entries : _) → AtUnder table.nodes root nodes entries 0 place
    pointed-last none last nodes entries =
        record { root_is = to.root_is; at = behind none ∙ leaf_last union.1.capacity tree_is.fit tree_is.inside pointed (last _ _ _ pointed-over.3) }

-- a path in a union of trees
module _ {K V : Type 0} {n : ℕ} {most : ℕ} {table : Table K V} {root : ℕ} (path : Path K V n) {place : ℕ} (union : IsUnion most table) where
  -- the root of a path that points to a place under a root
  pub points-root : PointsTo table root path place → path_root path ≡ root
  points-root to = let r = rooted _ _ _ union to.root_is in cc (root-points _ _ _ _ _ _ (omega arith) r.fit to.points)

  -- a path points to one place only, which is computed from its leaf and its index there
  pub points-spot : PointsTo table root path place → spot table root path ≡ place
  points-spot to = let tree = tree_of table.nodes root in let at = to.points in let m = leaf_of path in
      let none : count m (numbers at.before) ≡ 0 = omega (
        arith,
        (rooted _ _ _ union to.root_is).apart m,
        count-append m (numbers_of tree) table.chain,
        count-append m (numbers tree.leaves) (flat_map numbers tree.above),
        ap (λ z. count m (numbers z)) at.leaves_are,
        count-row m at.before m at.entries at.after,
        count-same m (numbers at.after),
      ) in
      let some : (path.size == 0) ≡ false = elim (eqb_tells path.size 0) [ inl w ↦ absurd (omega arith) | inr w ↦ w.0 ] in
      (λ j. if some j then length (list_under table root) else place_in tree.leaves m (index_of path)) ∙ ap (λ z. place_in z m (index_of path)) at.leaves_are
      ∙ place_by _ m _ _ _ none ∙ sym at.place_is

  -- a path that stands on an entry has its place computed
  pub on-spot : StandsOn table root path place → spot table root path ≡ place
  on-spot on = points-spot (on-points table path on)

  -- a path on an entry or at the end has its place computed
  pub at-spot : StandsAt table root path place → spot table root path ≡ place
  at-spot s = elim (eqb_tells path.size 0) [
    | inl w ↦ (λ j. if w.0 j then length (list_under table root) else place_in (tree_of table.nodes root).leaves (leaf_of path) (index_of path)) ∙ sym (at_end _ path.entry (tree_of table.nodes root) place path.size w.1 s.at)
    | inr w ↦ on-spot (record { root_is = s.root_is; stands = at_entry path.node path.entry (tree_of table.nodes root) place path.size w.1 s.at })
  ]
