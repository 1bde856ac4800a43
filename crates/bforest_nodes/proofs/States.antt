-- The kind of state that represents a content.
use Rattle.std.proofs.Common.{◌≡◌, ℕ, ◌+◌, ◌*◌, ◌<◌, ◌≤◌, List, None, arith, length, slice_get, sym, take, refl}
use Rattle.std.proofs.lemmas.List.{length-take}
use Rattle.std.proofs.lemmas.Option.{slice_get_past}
use Rattle.bforest_nodes.specs.Content.{Content, HasShape, IsFree, IsInner, IsLeaf, entry_count, keys_of, vals_of}
use Rattle.bforest_nodes.specs.Layout.{Fits, content_of}
use Rattle.bforest_nodes.specs.declared.entries.Entries.{Entries as LeafEntries}
use Rattle.bforest_nodes.specs.declared.number.Node.{Node}
use Rattle.bforest_nodes.specs.declared.number.PackedNode.{PackedNode}
use Rattle.bforest_nodes.specs.declared.row.Row.{Row}
use Rattle.bforest_nodes.specs.declared.node.State.TheVariants.{Branch, Entries, Vacant}
use Rattle.bforest_nodes.specs.declared.node.State.{State}

-- an index among the first `count` elements
within_front : {X : Type 0} (count : ℕ) (xs : List X) (i : ℕ) → i < length (take count xs) → i < count
within_front count xs i within = omega (arith, length-take count xs)

module _ {K V : Type 0} {n : ℕ} where
  -- a leaf's state is entries
  pub entries_of_leaf : (s : State K V n) → ((size : ℕ) (e : LeafEntries K V n) → s ≡ Entries size e → ⊥) → IsLeaf (content_of s) → ⊥
  entries_of_leaf (Branch size keys tree) other leaf = leaf
  entries_of_leaf (Entries size e) other leaf = other size e refl
  entries_of_leaf (Vacant next) other leaf = leaf

  -- an inner node's state is a branch
  pub branch_of_inner : (s : State K V n) → ((size : ℕ) (keys : Row K 7) (tree : Row Node 8) → s ≡ Branch size keys tree → ⊥) → IsInner (content_of s) → ⊥
  branch_of_inner (Branch size keys tree) other inner = other size keys tree refl
  branch_of_inner (Entries size e) other inner = inner
  branch_of_inner (Vacant next) other inner = inner

  -- a free node's state is vacant
  pub vacant_of_free : (s : State K V n) → ((next : PackedNode) → s ≡ Vacant next → ⊥) → IsFree (content_of s) → ⊥
  vacant_of_free (Branch size keys tree) other free = free
  vacant_of_free (Entries size e) other free = free
  vacant_of_free (Vacant next) other free = other next refl

  -- a branch of eight children has seven keys
  pub full_branch : (s : State K V n) (size : ℕ) (keys : Row K 7) (tree : Row Node 8) (whole : Content K V) → content_of s ≡ whole → s ≡ Branch size keys tree → Fits s → entry_count whole ≡ 8 → size ≡ 7
  full_branch s size keys tree whole view is fits full =
      let most : size ≤ 7 = rw is at fits in
      let children : length (take (size + 1) tree.items) ≡ 8 = rw (← view, is) at full in
      omega (arith, length-take (size + 1) tree.items)

  -- a full leaf has n entries
  pub full_entries : (s : State K V n) (size : ℕ) (e : LeafEntries K V n) (whole : Content K V) → content_of s ≡ whole → s ≡ Entries size e → Fits s → entry_count whole ≡ n → size ≡ n
  full_entries s size e whole view is fits full =
      let most : size ≤ n = rw is at fits in
      let keys : length (take size e.keys.items) ≡ n = rw (← view, is) at full in
      omega (arith, length-take size e.keys.items)

  -- an index among a leaf's entries
  pub entries_within : (s : State K V n) (size : ℕ) (e : LeafEntries K V n) (whole : Content K V) (i : ℕ) → content_of s ≡ whole → s ≡ Entries size e → i < entry_count whole → i < size
  entries_within s size e whole i view is within = within_front size e.keys.items i (rw (← view, is) at within)

  -- there is no entry behind a leaf's last
  pub no_key : (s : State K V n) (size : ℕ) (e : LeafEntries K V n) (whole : Content K V) (i : ℕ) → content_of s ≡ whole → s ≡ Entries size e → size ≤ i → None ≡ slice_get (keys_of whole) i
  no_key s size e whole i view is behind = rw (← view, is) (sym (slice_get_past (take size e.keys.items) i (omega (arith, behind, length-take size e.keys.items))))

  pub no_value : (s : State K V n) (size : ℕ) (e : LeafEntries K V n) (whole : Content K V) (i : ℕ) → content_of s ≡ whole → s ≡ Entries size e → size ≤ i → None ≡ slice_get (vals_of whole) i
  no_value s size e whole i view is behind = rw (← view, is) (sym (slice_get_past (take size e.vals.items) i (omega (arith, behind, length-take size e.vals.items))))

  -- an index among an inner node's children
  pub children_within : (s : State K V n) (size : ℕ) (keys : Row K 7) (tree : Row Node 8) (whole : Content K V) (i : ℕ) → content_of s ≡ whole → s ≡ Branch size keys tree → i < entry_count whole → i < size + 1
  children_within s size keys tree whole i view is within = within_front (size + 1) tree.items i (rw (← view, is) at within)

  -- an index among an inner node's keys
  pub keys_within : (s : State K V n) (size : ℕ) (keys : Row K 7) (tree : Row Node 8) (whole : Content K V) (i : ℕ) → content_of s ≡ whole → s ≡ Branch size keys tree → i < length (keys_of whole) → i < size
  keys_within s size keys tree whole i view is within = within_front size keys.items i (rw (← view, is) at within)

  -- a leaf at most half full has a size below half
  pub under_half : (s : State K V n) (size : ℕ) (e : LeafEntries K V n) (whole : Content K V) → content_of s ≡ whole → s ≡ Entries size e → Fits s → length e.keys.items ≡ n → 2 * entry_count whole ≤ n → 2 * size ≤ n
  under_half s size e whole view is fits room under =
      let most : size ≤ n = rw is at fits in
      let keys : 2 * length (take size e.keys.items) ≤ n = rw (← view, is) at under in
      omega (arith, length-take size e.keys.items)

  -- an inner node at most half full has few children
  pub few_children : (s : State K V n) (size : ℕ) (keys : Row K 7) (tree : Row Node 8) (whole : Content K V) → content_of s ≡ whole → s ≡ Branch size keys tree → Fits s → length tree.items ≡ 8 → entry_count whole ≤ 4 → size + 1 ≤ 4
  few_children s size keys tree whole view is fits room under =
      let most : size ≤ 7 = rw is at fits in
      let children : length (take (size + 1) tree.items) ≤ 4 = rw (← view, is) at under in
      omega (arith, length-take (size + 1) tree.items)

  -- the children of an inner node fit
  pub right_most : (s : State K V n) (size : ℕ) (keys : Row K 7) (tree : Row Node 8) → s ≡ Branch size keys tree → Fits s → size ≤ 7
  right_most s size keys tree is fits = rw is at fits

  -- the entries of a leaf fit
  pub entries_most : (s : State K V n) (size : ℕ) (e : LeafEntries K V n) → s ≡ Entries size e → Fits s → size ≤ n
  entries_most s size e is fits = rw is at fits

  -- an index among an inner node's keys, or just past them
  pub keys_upto : (s : State K V n) (size : ℕ) (keys : Row K 7) (tree : Row Node 8) (whole : Content K V) (i : ℕ) → content_of s ≡ whole → s ≡ Branch size keys tree → i ≤ length (keys_of whole) → i ≤ size
  keys_upto s size keys tree whole i view is within =
      let upto : i ≤ length (take size keys.items) = rw (← view, is) at within in
      omega (arith, length-take size keys.items)

  -- an index among a leaf's entries, or just past them
  pub entries_upto : (s : State K V n) (size : ℕ) (e : LeafEntries K V n) (whole : Content K V) (i : ℕ) → content_of s ≡ whole → s ≡ Entries size e → i ≤ entry_count whole → i ≤ size
  entries_upto s size e whole i view is within =
      let upto : i ≤ length (take size e.keys.items) = rw (← view, is) at within in
      omega (arith, length-take size e.keys.items)

  -- whether an inner node has room
  pub branch_room : (s : State K V n) (size : ℕ) (keys : Row K 7) (tree : Row Node 8) (whole : Content K V) → content_of s ≡ whole → s ≡ Branch size keys tree → size < 7 → entry_count whole < 8
  branch_room s size keys tree whole view is room =
      let count : length (take (size + 1) tree.items) < 8 = omega (arith, length-take (size + 1) tree.items) in
      rw (← view, is) count

  pub branch_full : (s : State K V n) (size : ℕ) (keys : Row K 7) (tree : Row Node 8) (whole : Content K V) → content_of s ≡ whole → s ≡ Branch size keys tree → length tree.items ≡ 8 → 7 ≤ size → entry_count whole < 8 → ⊥
  branch_full s size keys tree whole view is room full few =
      let count : length (take (size + 1) tree.items) < 8 = rw (← view, is) at few in
      omega (arith, length-take (size + 1) tree.items)

  -- whether a leaf has room
  pub entries_room : (s : State K V n) (size : ℕ) (e : LeafEntries K V n) (whole : Content K V) → content_of s ≡ whole → s ≡ Entries size e → size < n → entry_count whole < n
  entries_room s size e whole view is room =
      let count : length (take size e.keys.items) < n = omega (arith, length-take size e.keys.items) in
      rw (← view, is) count

  pub entries_full : (s : State K V n) (size : ℕ) (e : LeafEntries K V n) (whole : Content K V) → content_of s ≡ whole → s ≡ Entries size e → length e.keys.items ≡ n → n ≤ size → entry_count whole < n → ⊥
  entries_full s size e whole view is room full few =
      let count : length (take size e.keys.items) < n = rw (← view, is) at few in
      omega (arith, length-take size e.keys.items)

  -- the shape of an inner node whose keys and children were read
  pub branch_shape : (s : State K V n) (size : ℕ) (keys : Row K 7) (tree : Row Node 8) (whole : Content K V) (ks : List K) (cs : List ℕ)
      → content_of s ≡ whole → s ≡ Branch size keys tree → Fits s → ks ≡ take size keys.items → length ks ≡ size
      → cs ≡ take (size + 1) tree.items → length cs ≡ size + 1 → HasShape n whole
  branch_shape s size keys tree whole ks cs view is fits keys_are count tree_is children =
      let most : size ≤ 7 = rw is at fits in
      rw (← view, is, ← keys_are, ← tree_is, count, children) (refl, omega (arith, most))
