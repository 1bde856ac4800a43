-- The way down to the first leaf below a node, and to the last, with no path: the answers of `first_leaf` and `last_leaf`.
use Rattle.bforest_core.proofs.Words.{◌≡◌, ℕ, ◌+◌, ◌-◌, ◌≤◌, ◌<◌, List, [], ◌∷◌, ◌++◌, length, slice_get, Some, refl, ap, ◌∙◌, arith, Heads, IsInner, Row}
use Rattle.bforest_core.proofs.Words.{HasBelow, IsFirst, IsLast, NodeOver, NumberAt, OnBelow, heads, IsLeafCapacity}
use Rattle.bforest_core.proofs.{walks.Leading.{Turns, child_under, last-place}, walks.TopNode.{InnerUnder, inner_under, leaf_under, none_flat}}
use Rattle.bforest_core.proofs.Words.{Content, IsLeaf, IsLeafAt, IsTrue, IsUnion, Table, entry_count, is_root, length-append, node, flat, leaf_content, subst, tree_of, vals_of}
use Rattle.bforest_core.proofs.{rows.LevelRows.flat-append, table.Stored.{item_count, keys_count, read_same, slice_get_at}, walks.Reading.{ChildAsked, ChildRead}}
use Rattle.bforest_core.proofs.{walks.Codes.leaf-at, walks.Entered.pair_read, walks.RowNodes.entry_at, walks.Standing.under-root, union.Unions.is-rooted}
use Rattle.bforest_nodes.specs.Content.{keys_of}

module _ {K V : Type 0} {most : ℕ} {slots : List (Content K V)} (capacity : IsLeafCapacity most) {number : ℕ} {content : Content K V}
    (read : slice_get slots number ≡ Some content) where
  -- at the leaf
  module _ (other : IsInner content → ⊥) where
    here : {leaves : Row K V} (n : NodeOver most slots leaves number) {place : ℕ} → length n.before ≡ place → NumberAt (heads leaves) place number
    here n is = let s = leaf_under capacity n read other in let all = rw s.lower_is at n.under.stacked in
        rw (← is) (n.first, cc (slice_get_at n.before (n.first, number) n.after (length n.before) refl))

    pub first-ends : (level : ℕ) → OnBelow most slots IsFirst number level (λ leaves lower top. NumberAt (heads leaves) 0 number)
    first-ends level leaves n side is = here n (ap length side)

    pub last-ends : (level : ℕ) → OnBelow most slots IsLast number level (λ leaves lower top. NumberAt (heads leaves) (length leaves - 1) number)
    last-ends level leaves n side is = here n (last-place capacity (leaf_under capacity n read other) side)

  -- at an inner node, by the child on that side
  module _ (inner : IsInner content) {Side : Heads K → Heads K → Type 0} {index : ℕ} {place : Row K V → ℕ} (turns : Turns most slots Side place number index) where
    abbrev step : {leaves : Row K V} (n : NodeOver most slots leaves number) → InnerUnder n
    step n = inner_under capacity n read inner

    module _ (depth : ℕ) (w : (level : ℕ) × HasBelow most slots Side number level × (depth + level ≤ 16)) where
      -- what reading the child asks
      pub end-asks : ChildAsked slots number index
      end-asks = let s = step w.1.1 in (_, _, s.slot_is, omega (arith, turns.within s w.1.2, item_count (s.e ∷ s.es)))

      -- a level more is not too many
      pub end-low : depth < 16
      end-low = let s = step w.1.1 in omega (arith, s.count_is, w.1.3, w.2)

      -- what the call for the child asks
      pub end-below : {child : ℕ} → ChildRead slots number index child → (deeper : ℕ) → deeper ≡ depth + 1
          → (level : ℕ) × HasBelow most slots Side child level × (deeper + level ≤ 16)
      end-below reads deeper is = let s = step w.1.1 in let c = child_under s index reads in
          (_, (w.1.0, c.on, turns.keeps s w.1.2 c, refl), omega (arith, s.count_is, w.1.3, w.2, ap length c.rows_are))

    -- what is said of the leaves under the child is said of those under the node
    pub end-on : {child : ℕ} → ChildRead slots number index child → {Said : Row K V → Type 0} → ((level : ℕ) → OnBelow most slots Side child level (λ leaves lower top. Said leaves))
        → (level : ℕ) → OnBelow most slots Side number level (λ leaves lower top. Said leaves)
    end-on reads says level leaves n side is = let s = step n in let c = child_under s index reads in says _ leaves c.on (turns.keeps s side c) refl

-- an entry that was read in a leaf of the tree under a root
module _ {K V : Type 0} {table : Table K V} {root place number : ℕ} (l : IsLeafAt table root place number) {content : Content K V}
    (read : slice_get table.nodes number ≡ Some content) where
  leaf-is : leaf_content l.entries ≡ content
  leaf-is = read_same table.nodes number read l.slot_is

  -- what reading an entry asks
  pub entry-asks : {index : ℕ} → index < length l.entries → IsLeaf content × (index < entry_count content)
  entry-asks low = (subst IsLeaf leaf-is tt, rw (← leaf-is) (omega (arith, low, keys_count l.entries)))

  read-is : (index : ℕ) {e : K × V} → slice_get (keys_of content) index ≡ Some e.0 → slice_get (vals_of content) index ≡ Some e.1
      → slice_get (flat (tree_of table.nodes root).leaves) (length (flat l.before) + index) ≡ Some e
  read-is index key value = entry_at _ _ _ _ index l.leaves_are (pair_read l.entries index (rw (← leaf-is) at key) (rw (← leaf-is) at value))

  -- the first entry of the first leaf is that of the tree
  pub first-is : place ≡ 0 → {e : K × V} → slice_get (keys_of content) 0 ≡ Some e.0 → slice_get (vals_of content) 0 ≡ Some e.1
      → slice_get (flat (tree_of table.nodes root).leaves) 0 ≡ Some e
  first-is first key value = let at : length (flat l.before) + 0 ≡ 0 = omega (arith, none_flat l.before (l.at ∙ first)) in rw at at (read-is _ key value)

  -- the last entry of the last leaf is that of the tree
  pub last-is : place ≡ length (tree_of table.nodes root).leaves - 1 → {index : ℕ} → index ≡ entry_count content - 1 → {e : K × V} → slice_get (keys_of content) index ≡ Some e.0
      → slice_get (vals_of content) index ≡ Some e.1 → slice_get (flat (tree_of table.nodes root).leaves) (length (flat (tree_of table.nodes root).leaves) - 1) ≡ Some e
  last-is last {index} index_is key value = let rest = node number l.entries ∷ l.after in
      let none = none_flat l.after (omega (arith, ap length l.leaves_are, length-append l.before rest, l.at, last)) in
      let parts = ap length (ap flat l.leaves_are ∙ flat-append l.before rest) in
      let at : length (flat l.before) + index ≡ length (flat (tree_of table.nodes root).leaves) - 1 =
      omega (arith, parts, none, length-append (flat l.before) (l.entries ++ flat l.after), length-append l.entries (flat l.after), ap entry_count leaf-is, keys_count l.entries, l.some, index_is) in
      rw at at (read-is _ key value)

-- the ways down from a root
module _ {K V : Type 0} {most : ℕ} {table : Table K V} (union : IsUnion most table) {root : ℕ} (is : IsTrue (is_root table.nodes root)) where
  -- what the way down on a side asks
  pub root-side : (Side : Heads K → Heads K → Type 0) → Side [] [] → (level : ℕ) × HasBelow most table.nodes Side root level × (0 + level ≤ 16)
  root-side Side side = (_, ((tree_of table.nodes root).leaves, under-root root union is, side, refl), omega (arith, (is-rooted root union is).low))

  pub first-leaf : {leaf : ℕ} → ((level : ℕ) → OnBelow most table.nodes IsFirst root level (λ leaves lower top. NumberAt (heads leaves) 0 leaf)) → IsLeafAt table root 0 leaf
  first-leaf says = leaf-at union root is (says _ _ (under-root root union is) refl refl)

  pub last-leaf : {leaf : ℕ} → ((level : ℕ) → OnBelow most table.nodes IsLast root level (λ leaves lower top. NumberAt (heads leaves) (length leaves - 1) leaf))
      → IsLeafAt table root (length (tree_of table.nodes root).leaves - 1) leaf
  last-leaf says = leaf-at union root is (says _ _ (under-root root union is) refl refl)
