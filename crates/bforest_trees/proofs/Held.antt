-- The leaf that a look holds, and what is read by its number.
use Rattle.bforest_trees.proofs.Changed.{list-root}
use Rattle.bforest_trees.specs.Forest.{list_of}
use Rattle.bforest_trees.specs.Looks.{HasNoLeaf, Holds, IsLook, IsPaired, LeafFrom, start_of}
use Rattle.bforest_trees.specs.declared.look.Look.{Look}
use Rattle.bforest_core.proofs.rows.LevelRows.{flat-append}
use Rattle.bforest_core.proofs.table.Lists.{slice_get-append_left}
use Rattle.bforest_core.proofs.table.Stored.{read_same, some_same}
use Rattle.bforest_core.proofs.walks.CodesDown.{end-of, near-here}
use Rattle.bforest_core.proofs.walks.Entered.{pair_read}
use Rattle.bforest_core.proofs.walks.Steps.{read}
use Rattle.bforest_core.specs.Levels.{LevelNode, flat, node}
use Rattle.bforest_core.specs.Paths.{list_under}
use Rattle.bforest_core.specs.Place.{entry_items, entry_keys}
use Rattle.bforest_core.specs.Spots.{IsLeafAt, IsSpotAt, leaf_count}
use Rattle.bforest_core.specs.Table.{Table}
use Rattle.bforest_core.specs.Trees.{IsUnion, is_root, tree_of}
use Rattle.bforest_core.specs.declared.spot.Spot.{Spot}
use Rattle.bforest_nodes.proofs.Seams.{slice_get-append-add}
use Rattle.bforest_nodes.specs.Content.{Content, IsInner, IsLeaf, Leaf, keys_of, vals_of}
use Rattle.bforest_nodes.specs.Entries.{place}
use Rattle.std.proofs.Common.{IsTrue, List, Option, Some, [], ap, append_assoc, arith, inl, length, length-append, refl, slice_get, subst, suc, sym, take, ◌+◌, ◌++◌, ◌-◌, ◌<◌, ◌∙◌, ◌∷◌, ◌≡◌, ◌≤◌, ℕ, true}
use Rattle.std.proofs.Math.Seq.{take-length}
use Rattle.std.proofs.lemmas.List.{length-map, take_at}
use Rattle.std.proofs.lemmas.Option.{slice_get_within}

module _ {K V : Type 0} (table : Table K V) {root place number : ℕ} (l : IsLeafAt table root place number) where
  abbrev leaves : List (LevelNode K V)
  leaves = (tree_of table.nodes root).leaves

  -- how many entries are in front of a leaf
  pub start-is : start_of table root place ≡ length (flat l.before)
  start-is = ap (λ z. length (flat (take place z))) l.leaves_are ∙ ap (λ z. length (flat z)) (take_at l.before (node number l.entries ∷ l.after) place l.at)

  -- the list is cut at the leaf
  pub list-is : list_under table root ≡ flat l.before ++ (l.entries ++ flat l.after)
  list-is = ap (λ z. flat z) l.leaves_are ∙ flat-append l.before (node number l.entries ∷ l.after)

  -- how many entries are in front of what is behind the leaf
  pub start-behind : start_of table root (suc place) ≡ start_of table root place + length l.entries
  start-behind =
      let one = node number l.entries ∷ [] in
      let front : take (suc place) leaves ≡ l.before ++ one = ap (λ z. take (suc place) z) (l.leaves_are ∙ sym (append_assoc l.before one l.after)) ∙ take_at (l.before ++ one) l.after (suc place) (omega (arith, l.at, length-append l.before one)) in
      let whole : start_of table root (suc place) ≡ length (flat l.before ++ (l.entries ++ [])) = ap (λ z. length (flat z)) front ∙ ap length (flat-append l.before one) in
      omega (arith, whole, start-is, length-append (flat l.before) (l.entries ++ []), length-append l.entries [])

  -- an entry of the leaf, in the list
  pub read-leaf : (i : ℕ) → i < length l.entries → slice_get (list_under table root) (start_of table root place + i) ≡ slice_get l.entries i
  read-leaf i low =
      let r = read l.entries i low in
      (λ j. slice_get (list-is j) (start-is j + i)) ∙ slice_get-append-add (flat l.before) (l.entries ++ flat l.after) i ∙ slice_get-append_left l.entries (flat l.after) i r.0 r.1 ∙ sym r.1

  -- the leaf ends within the list
  pub leaf-within : start_of table root place + length l.entries ≤ length (list_under table root)
  leaf-within = omega (arith, start-is, ap length list-is, length-append (flat l.before) (l.entries ++ flat l.after), length-append l.entries (flat l.after))

  -- all entries are in front of what is behind the last leaf
  pub start-last : suc place ≡ leaf_count table root → start_of table root (suc place) ≡ length (list_under table root)
  start-last last = ap (λ z. length (flat (take z leaves))) last ∙ ap (λ z. length (flat z)) (take-length leaves)

  -- the last leaf's place is one less than the number of leaves
  pub last-place : place ≡ leaf_count table root - 1 → suc place ≡ leaf_count table root
  last-place is = omega (arith, is, l.at, ap length l.leaves_are, length-append l.before (node number l.entries ∷ l.after))

module _ {K V : Type 0} {table : Table K V} {handle : Option ℕ} {spot : Spot} {number start : ℕ} (f : LeafFrom table handle spot number start) where
  -- the list of the handle is that of the leaf's tree
  pub from-list : list_of table handle ≡ list_under table f.root
  from-list = ap (λ h. list_of table h) f.handle_is ∙ list-root table f.root f.on.root_is

  -- an entry of the leaf, in the handle's list
  from-read : (i : ℕ) → i < length f.leaf.entries → slice_get (list_of table handle) (start + i) ≡ slice_get f.leaf.entries i
  from-read i low = (λ j. slice_get (from-list j) (f.start_is j + i)) ∙ read-leaf table f.leaf i low

  from-within : start + length f.leaf.entries ≤ length (list_of table handle)
  from-within = omega (arith, f.start_is, ap length from-list, leaf-within table f.leaf)

  -- behind the leaf's entries the next leaf begins
  pub from-behind : start + length f.leaf.entries ≡ start_of table f.root (suc f.place)
  from-behind = omega (arith, f.start_is, start-behind table f.leaf)

  -- the root is the handle's
  pub from-root : (root : ℕ) → handle ≡ Some root → f.root ≡ root
  from-root root is = some_same (sym f.handle_is ∙ is)

  pub from-spot : (root : ℕ) → handle ≡ Some root → IsSpotAt table root spot f.place
  from-spot root is = subst (λ z. IsSpotAt table z spot f.place) (from-root root is) f.on

module _ {K V : Type 0} {table : Table K V} {handle : Option ℕ} {look : Look K V} {start : ℕ} (h : Holds table handle look start) where
  -- a look holds as many keys as its leaf has entries
  pub held-count : length look.keys.now ≡ length h.from.leaf.entries
  held-count = ap length h.keys ∙ length-map h.from.leaf.entries (λ e. e.0)

  pub held-paired : IsPaired look
  held-paired = held-count ∙ sym (length-map h.from.leaf.entries (λ e. e.1)) ∙ sym (ap length h.vals)

  pub held-some : 1 ≤ length look.keys.now
  held-some = omega (arith, held-count, h.from.leaf.some)

  pub held-within : start + length look.keys.now ≤ length (list_of table handle)
  held-within = omega (arith, held-count, from-within h.from)

  -- a key and a value that are read are an entry of the list
  pub held-read : (index : ℕ) (entry : K × V) → slice_get look.keys.now index ≡ Some entry.0 → slice_get look.vals.now index ≡ Some entry.1 → Some entry ≡ slice_get (list_of table handle) (start + index)
  held-read index entry key value =
      let es = h.from.leaf.entries in
      let found = pair_read es index (ap (λ z. slice_get z index) (sym h.keys) ∙ key) (ap (λ z. slice_get z index) (sym h.vals) ∙ value) in
      sym (from-read h.from index (slice_get_within es index entry found) ∙ found)

  -- a look at an index of its leaf
  pub on-entry : (index place : ℕ) → index < length look.keys.now → place ≡ start + index → IsLook table handle (record look { index = index }) place
  on-entry index place low is = inl (record { start = start; holds = record { number = h.number; from = h.from; keys = h.keys; vals = h.vals }; within = low; place_is = is })

  -- a look at the first entry of its leaf
  pub on-first : look.index ≡ 0 → IsLook table handle look start
  on-first none = inl (record { start = start; holds = h; within = omega (arith, none, held-some); place_is = omega (arith, none) })

  -- the first entry of its leaf is there
  pub first-within : look.index ≡ 0 → look.index < length look.keys.now
  first-within none = omega (arith, none, held-some)

-- a look that holds no leaf holds no key
pub keyless : {K V : Type 0} {look : Look K V} → HasNoLeaf look → length look.keys.now ≡ 0
keyless none = ap length none.keys

-- what is read by the number of a spot's leaf
module _ {K V : Type 0} {table : Table K V} {handle : Option ℕ} {spot : Spot} {number start : ℕ} (f : LeafFrom table handle spot number start) {content : Content K V} (found : slice_get table.nodes number ≡ Some content) where
  pub leaf-read : IsLeaf content
  leaf-read = subst IsLeaf (read_same table.nodes number found f.leaf.slot_is) tt

  module _ {keys : List K} {vals : List V} (is : content ≡ Leaf keys vals) where
    keys-read : keys ≡ entry_keys f.leaf.entries
    keys-read = sym (ap keys_of is) ∙ sym (ap keys_of (read_same table.nodes number found f.leaf.slot_is))

    pub count-read : length keys ≡ length f.leaf.entries
    count-read = ap length keys-read ∙ length-map f.leaf.entries (λ e. e.0)

    vals-read : vals ≡ entry_items f.leaf.entries
    vals-read = sym (ap vals_of is) ∙ sym (ap vals_of (read_same table.nodes number found f.leaf.slot_is))

-- a look that holds the leaf of a spot
pub holds-leaf : {K V : Type 0} {table : Table K V} {handle : Option ℕ} {number start : ℕ} {content : Content K V} {look : Look K V}
    → LeafFrom table handle look.spot number start → slice_get table.nodes number ≡ Some content
    → content ≡ Leaf look.keys.now look.vals.now → Holds table handle look start
holds-leaf {number = number} f found is = record { number = number; from = f; keys = keys-read f found is; vals = vals-read f found is }

-- the first leaf begins the list
pub from-first : {K V : Type 0} {table : Table K V} {handle : Option ℕ} {root number : ℕ} {spot : Spot} → handle ≡ Some root → IsSpotAt table root spot 0 → IsLeafAt table root 0 number → LeafFrom table handle spot number 0
from-first {root = root} is on leaf = record { root = root; handle_is = is; place = 0; on = on; leaf = leaf; start_is = refl }

-- the only leaf of a tree, whose root is no inner node
pub from-only : {K V : Type 0} {n : ℕ} {table : Table K V} {root : ℕ} {content : Content K V} → IsUnion n table →
    IsTrue (is_root table.nodes root) → slice_get table.nodes root ≡ Some content → (IsInner content → ⊥) → (spot : Spot) → spot.code ≡ 0 → spot.height ≡ 0 → LeafFrom table (Some root) spot root 0
from-only union is read other spot code height =
    let alone = end-of union is code height true (near-here union.1.capacity read other spot true) in
    from-first refl alone.0 alone.1
