-- Restoring a tree whose leaf at the end of a way lost an entry, and removing one there: the answers of `heal_on`, `renew_near`, `heal_beside`, `heal_far`, `take_first` and `take_last`.
use Rattle.bforest_core.proofs.Words.{◌≡◌, ℕ, zero, suc, ◌+◌, ◌-◌, ◌*◌, ◌/◌, ◌%◌, ◌^◌, ◌≤◌, ◌<◌, List, [], ◌∷◌, ◌++◌, drop, length, get_or, slice_get, Some}
use Rattle.bforest_core.proofs.Words.{eqb_tells, false≢true, inl, inr, nat_eq, true, refl, sym, ap, ◌∙◌, arith, Rows, Table, OneAbove, StandsAbove, LeadsUp, TakenOn, ShrinksOn, Inner, Leaf}
use Rattle.bforest_core.proofs.Words.{IsUsed, with_node, with_key, entry_keys, entry_items, inner_content, HasOthers, LeafLoss}
use Rattle.bforest_core.proofs.Words.{Content, EntryTaken, IsLeaf, leaf_content, IsUnion, OnWay, count, entry_count, flat, length-append, slice_get_within, subst, tree_of, vals_of, without_entry}
use Rattle.bforest_core.proofs.{Words.{CountsAt, Row, ShortOn, Shrinks, Shrunk, half_of, heads, least, node}, removal.Removal.stands_in, rows.LevelRows.flat-append, walks.Entered.pair_read, walks.Reading.LastRead, walks.RowNodes.entry_at, table.Stored.keys_count}
use Rattle.bforest_nodes.specs.Content.{keys_of}
use Rattle.bforest_core.proofs.{removal.Asked.{Counts, First, NodeAt, some_first}, removal.Healing.{count_is, counted_asks, kept_full, kept_last, left_is, others, root_was, settled, stood_in, unbalanced_by, within}, removal.LeafAt.{LeafAt, leaf_at, leaf_count}}
use Rattle.bforest_core.proofs.{removal.Lifted.{above_written, headed, rekey_parent}, removal.Taking.{LeafKeyAt, above_asks, ahead, behind, first_asks}, rows.Zipper.{Spot, spot}}
use Rattle.bforest_core.proofs.{table.Trading.puts, table.Tables.is_used, table.Stored.{item_count, key_count, some_same}, walks.TopNode.none_flat, walks.Ways.{first-rung, leads-up, up-none, stands-points, up-digit}}
use Rattle.bforest_core.proofs.insertion.LeafSpot.{first_rekeyed}
use Rattle.bforest_core.specs.declared.path.way.Way.{Way}

-- where all indices of a path are 0, it stands at the first place
leftmost : {K : Type 0} (path indices : List ℕ) (level : ℕ) (rows : Rows K) (place : ℕ) → ((i : ℕ) → level ≤ i → i < level + length rows → get_or indices i 0 ≡ 0) →
    StandsAbove path indices level rows place → place ≡ 0
leftmost path indices level [] place none s = s
leftmost path indices level (row ∷ rows) place none s = let at = s.0 in
    let first = leftmost path indices (suc level) rows (length at.before) (λ i high low. none i (omega arith) (omega arith)) s.1 in
    omega (arith, at.place_is, none level (omega arith) (omega arith), none_flat at.before first)

-- what the digits of 0 are
zero-digits : (code level : ℕ) → code ≡ 0 → code / 2 ^ (3 * level) ≡ 0
zero-digits code zero none = omega (arith, none)
zero-digits code (suc level) none = sym (up-digit code level) ∙ zero-digits (code / 8) level (omega (arith, none))

pub zero-is : (code : ℕ) → nat_eq code 0 ≡ true → code ≡ 0
zero-is code is = elim (eqb_tells code 0) [ inl w ↦ w.1 | inr w ↦ absurd (false≢true (sym w.0 ∙ is)) ]

leaf-keys : {K V : Type 0} {keys keys' : List K} {vals vals' : List V} → Leaf keys vals ≡ Leaf keys' vals' → keys ≡ keys'
leaf-keys e = cc

-- a node that is not the last of its row has half its capacity
least-more : {K X : Type 0} (half : ℕ) (row : Row K X) → 1 ≤ length (heads row) → least half row ≡ half
least-more half [] some = absurd (omega arith)
least-more half (x ∷ row) some = refl

-- a child follows that at which a way ends
pub child-follows : (code : ℕ) {digit n : ℕ} → digit ≡ code / 2 ^ (3 * 0) % 8 → digit + 1 < n → suc (code % 8) < n
child-follows code is more = omega (arith, more, is, ap (λ z. z % 8) (up-none code))

-- a node has as many children with another separator
pub kept-count : {K V : Type 0} {t u : Table K V} {number index : ℕ} (key : K) → IsUsed t number × ((keys : List K) × (children : List ℕ) × (slice_get t.nodes number ≡ Some (Inner keys children)) × (index < length keys))
    → ((keys : List K) (children : List ℕ) → slice_get t.nodes number ≡ Some (Inner keys children) → u ≡ with_node t number (with_key (Inner keys children) index key))
    → (m : ℕ) → CountsAt t number m → CountsAt u number m
kept-count key a writes m counts content is = let w = puts _ _ _ _ _ a.1.2 (writes a.1.0 a.1.1 a.1.2) in counts _ a.1.2 ∙ ap entry_count (some_same (sym w.here ∙ is))

module _ {K V : Type 0} {most : ℕ} {old now : Table K V} {root place index : ℕ} {way : Way} (t : TakenOn most old now root way index place) where
  open t use {path, indices, size, follows as f, taken as e}

  -- the path leads up to the root still
  pub taken-up : LeadsUp now.nodes root path indices size
  taken-up = let s = stood_in e in let d = leaf_at s in let a = above_written (puts _ _ _ _ _ e.leaf.slot_was e.leaf.new_is) d.none_rows d.above in
      leads-up e.union.1.capacity s.fit a.over.inside (root_was e) (stands-points s.stands)

  -- the leaf, as it is read
  pub leaf-asks : NodeAt now way.leaf
  leaf-asks = counted_asks e _ (sym f.leaf_is)

  -- the digit of the leaf's parent
  digit-is : {digit : ℕ} → digit ≡ way.code / 2 ^ (3 * 0) % 8 → 0 < digit → (0 < way.height) × (get_or indices 1 0 ≡ digit)
  digit-is {digit} is some = let high : ¬ (way.height ≡ 0) = λ none. omega (arith, is, (f.alone none).0) in
      (omega (arith, high), f.digits 0 (omega (arith, high)) ∙ sym is)

  -- the indices above the leaf where the code is 0
  zero-index : way.code ≡ 0 → (level : ℕ) → 1 ≤ level → level < size → get_or indices level 0 ≡ 0
  zero-index none zero some low = absurd (omega arith)
  zero-index none (suc level) some low = f.digits level (omega (arith, f.size_is)) ∙ ap (λ z. z % 8) (zero-digits way.code level none)

  abbrev left : ℕ
  left = entry_count leaf-asks.0

  pub left-read : Counts now way.leaf left
  left-read content is = ap entry_count (some_same (sym leaf-asks.1 ∙ is))

  -- an entry behind the first was lost, the last of the tree
  pub healed-last : suc place ≡ length (flat (tree_of old.nodes root).leaves) → 0 < index → Shrinks most old now path root place (Some root)
  healed-last last some = let has = others e _ (sym f.leaf_is) left left-read (λ none. omega (arith, count_is e _ (sym f.leaf_is) left left-read, within e, t.index_is)) in
      kept_last e _ (sym f.leaf_is) left left-read (behind (stood_in e) has (omega (arith, t.index_is))) last

  module _ (filled : (content : Content K V) → slice_get now.nodes way.leaf ≡ Some content → 0 < entry_count content) where
    has : HasOthers old now path indices
    has = others e _ (sym f.leaf_is) left left-read (λ none. omega (arith, filled leaf-asks.0 leaf-asks.1))

    -- the leaf without an entry, under rows that have its first key
    abbrev Lost : Table K V → Type 0
    Lost new = LeafLoss most old new path indices size (tree_of old.nodes root) place

    -- an entry behind the first was lost
    pub lost-behind : 0 < index → Lost now
    lost-behind some = behind (stood_in e) has (omega (arith, t.index_is))

    module _ (first : index ≤ 0) where
      index-none : get_or indices 0 0 ≤ 0
      index-none = omega (arith, t.index_is)

      pub first-key-asks : LeafKeyAt now way.leaf 0
      first-key-asks = rw (← f.leaf_is) (first_asks (stood_in e) 0 (omega (arith, f.wide)) has index-none)

      -- the rows above, with the leaf's old first key
      over : OneAbove now path indices 1 size
      over = above_asks (stood_in e) has index-none

      -- the leaf's parent, where the leaf is not its first child
      module _ {digit : ℕ} (is : digit ≡ way.code / 2 ^ (3 * 0) % 8) (some : 0 < digit) where
        parent-is : get_or path 1 0 ≡ way.parent
        parent-is = f.parent_is (digit-is is some).0

        parent-low : 1 < size
        parent-low = omega (arith, f.size_is, (digit-is is some).0)

        pub key-asks : IsUsed now way.parent × ((keys : List K) × (children : List ℕ) × (slice_get now.nodes way.parent ≡ Some (Inner keys children)) × (digit - 1 < length keys))
        key-asks = let o = over in let d = spot o.before o.x o.after o.above parent-low in let es = d.l ++ o.x ∷ d.r in
            rw (← parent-is) (
              is_used now (get_or path 1 0) (inner_content es) d.slot_is d.none_chain,
              (drop 1 (entry_keys es), entry_items es, d.slot_is, omega (arith, key_count es, d.count_is, (digit-is is some).1, some)),
            )

        pub lost-key : {key : K} {new : Table K V} → ((keys : List K) (vals : List V) → slice_get now.nodes way.leaf ≡ Some (Leaf keys vals) → slice_get keys 0 ≡ Some key) →
            ((keys : List K) (children : List ℕ) → slice_get now.nodes way.parent ≡ Some (Inner keys children) → new ≡ with_node now way.parent (with_key (Inner keys children) (digit - 1) key)) →
            Lost new
        lost-key {key} {new} reads writes = ahead (stood_in e) 0 (omega (arith, f.wide)) has index-none new key (rw f.leaf_is reads)
            (λ o. let d = spot o.before o.x o.after o.above parent-low in let es = d.l ++ o.x ∷ d.r in let first = (digit-is is some).1 in
            rekey_parent d new key (omega (arith, first, some))
            (writes (drop 1 (entry_keys es)) (entry_items es) (ap (slice_get now.nodes) (sym parent-is) ∙ d.slot_is)
            ∙ ap (λ z. with_node now z (with_key (inner_content es) (digit - 1) key)) (sym parent-is)
            ∙ ap (λ z. with_node now (get_or path 1 0) (with_key (inner_content es) (z - 1) key)) (sym first)))

      -- the leaf is the first of the tree
      pub lost-first : way.code ≡ 0 → Lost now
      lost-first none = let a = first_asks (stood_in e) 0 (omega (arith, f.wide)) has index-none in let k = some_first a.0 a.3 in
          ahead (stood_in e) 0 (omega (arith, f.wide)) has index-none now k.0 (λ keys vals is. let same = some_same (sym is ∙ a.2) in
          let front : keys ≡ k.0 ∷ k.1 = leaf-keys same ∙ k.2 in ap (λ z. slice_get z 0) front)
          (λ o. let front = leftmost path indices 1 o.rows (length o.before) (λ i high low. zero-index none i high (omega (arith, o.above.height))) o.above.stands in
          first_rekeyed (length o.rows) 1 o.rows o.before o.x o.after k.0 refl front o.above)

  -- the rows above the leaf have its first key
  module _ {new : Table K V} (l : LeafLoss most old new path indices size (tree_of old.nodes root) place) where
    -- the leaf is half full
    pub kept-on : {m : ℕ} → Counts now way.leaf m → most / 2 < m → ShrinksOn most old new root place path size (Some root)
    kept-on {m} value many = record { nodes = path; same = λ i low. refl; shrinks = kept_full e _ (sym f.leaf_is) m value l many }

    pub balanced-on : {last : Table K V} {left : ℕ} → Shrunk most old last path (tree_of old.nodes root) place left → ShrinksOn most old last root place path size (Some left)
    balanced-on shrunk = record { nodes = path; same = λ i low. refl; shrinks = settled e {Now = λ z. Unit {0}} (record { shrunk = shrunk; at = tt }) }

    -- the leaf is short, and may be balanced with its right neighbour
    abbrev pub short-on : ((content : Content K V) → slice_get now.nodes way.leaf ≡ Some content → entry_count content ≤ most / 2) → 0 < way.height → {n : ℕ} → CountsAt new way.parent n → (1 < way.height → 4 < n) → suc (way.code % 8) < n
        → ShortOn most new root way
    short-on few high children many more = record {
      path = path;
      indices = indices;
      size = size;
      follows = f;
      capacity = e.union.1.capacity;
      unbalanced = unbalanced_by e _ (sym f.leaf_is) left left-read l (few leaf-asks.0 leaf-asks.1);
      short = omega (arith, left_is e _ (sym f.leaf_is) left left-read l, few leaf-asks.0 leaf-asks.1, e.union.1.capacity.odd);
      high = high;
      children = λ content is. (λ above. omega (arith, children content is, many above), omega (arith, children content is, more));
    }

  module _ (high : 0 < way.height) {n : ℕ} (children : CountsAt now way.parent n) (more : suc (way.code % 8) < n) where
    d : LeafAt most old path indices size (tree_of old.nodes root) place
    d = leaf_at (stood_in e)

    named : First (d.l ++ d.x ∷ d.r)
    named = some_first (d.l ++ d.x ∷ d.r) (omega (arith, length-append d.l (d.x ∷ d.r)))

    -- the leaf's place under its parent
    under : Spot now path indices 1 size (tree_of old.nodes root).above (heads d.before) (named.0.0, get_or path 0 0) (heads d.after)
    under = spot (heads d.before) (named.0.0, get_or path 0 0) (heads d.after)
        (headed d.before (get_or path 0 0) d.after named (above_written (puts _ _ _ _ _ e.leaf.slot_was e.leaf.new_is) d.none_rows d.above)) (omega (arith, f.size_is, high))

    behind-it : 1 ≤ length (heads d.after)
    behind-it = let es = under.l ++ (named.0.0, get_or path 0 0) ∷ under.r in
        omega (arith, children (inner_content es) (ap (slice_get now.nodes) (sym (f.parent_is high)) ∙ under.slot_is), item_count es, under.count_is, ap length under.b_is, length-append under.r (flat under.after), f.digits 0 high, ap (λ z. z % 8) (up-none way.code), more)

    -- a leaf with a right neighbour under the same parent has an entry left
    pub still-filled : (content : Content K V) → slice_get now.nodes way.leaf ≡ Some content → 0 < entry_count content
    still-filled content is = omega (
      arith,
      left-read content is,
      count_is e _ (sym f.leaf_is) left left-read,
      d.fits.0,
      least-more (half_of most) d.after behind-it,
      e.union.1.capacity,
      leaf_count e.leaf.entries (d.l ++ d.x ∷ d.r) (slice_get old.nodes (get_or path 0 0)) e.leaf.slot_was d.slot_is,
    )

  -- the leaf's parent, as it is read
  pub parent-asks : 0 < way.height → NodeAt now way.parent
  parent-asks high = let r = first-rung taken-up (omega (arith, f.size_is)) in (inner_content r.entries, ap (slice_get now.nodes) (sym (f.parent_is high)) ∙ r.slot_is, λ free. free)

-- an entry of the leaf of a way is removed
module _ {K V : Type 0} {most : ℕ} {t : Table K V} {root place index : ℕ} {way : Way} (union : IsUnion most t) (w : OnWay t root way index place) where
  open w use {path, indices, size, follows as f}

  at : LeafAt most t path indices size (tree_of t.nodes root) place
  at = leaf_at (stands_in most t union w.stands)

  abbrev es : List (K × V)
  es = at.l ++ at.x ∷ at.r

  slot-there : slice_get t.nodes way.leaf ≡ Some (leaf_content es)
  slot-there = ap (slice_get t.nodes) (sym f.leaf_is) ∙ at.slot_is

  low-there : index < length es
  low-there = omega (arith, at.index_is, w.index_is, length-append at.l (at.x ∷ at.r))

  -- the leaf is in the slots
  pub leaf-within : way.leaf < length t.nodes
  leaf-within = slice_get_within t.nodes way.leaf (leaf_content es) slot-there

  pub entry-asks : {content : Content K V} → slice_get t.nodes way.leaf ≡ Some content → IsLeaf content × (index < entry_count content)
  entry-asks {content} is = let same = some_same (sym is ∙ slot-there) in (subst IsLeaf (sym same) tt, omega (arith, ap entry_count same, keys_count es, low-there))

  pub take-asks : IsUsed t way.leaf × LeafKeyAt t way.leaf index
  take-asks = (is_used t way.leaf _ slot-there (ap (λ z. count z t.chain) (sym f.leaf_is) ∙ at.none_chain), (entry_keys es, entry_items es, slot-there, omega (arith, keys_count es, low-there)))

  pub entry-taken : {new : Table K V} → ((keys : List K) (vals : List V) → slice_get t.nodes way.leaf ≡ Some (Leaf keys vals) → new ≡ with_node t way.leaf (without_entry (Leaf keys vals) index))
      → TakenOn most t new root way index place
  entry-taken {new} takes = record {
    path = path;
    indices = indices;
    size = size;
    follows = f;
    index_is = w.index_is;
    taken = record { union = union; stood = w.stands; leaf = record { entries = es; slot_was = at.slot_is; new_is = rw (f.leaf_is, w.index_is) (takes (entry_keys es) (entry_items es) slot-there) } };
  }

  -- the entry, as it was read
  pub entry-read : {content : Content K V} {entry : K × V} → slice_get t.nodes way.leaf ≡ Some content → slice_get (keys_of content) index ≡ Some entry.0 → slice_get (vals_of content) index ≡ Some entry.1
      → slice_get (flat (tree_of t.nodes root).leaves) place ≡ Some entry
  entry-read {content} {entry} is key value = let same = some_same (sym is ∙ slot-there) in
      let here = pair_read es index (ap (λ z. slice_get (keys_of z) index) (sym same) ∙ key) (ap (λ z. slice_get (vals_of z) index) (sym same) ∙ value) in
      let there : place ≡ length (flat at.before) + index = omega (arith, at.place_is, at.index_is, w.index_is) in
      ap (slice_get (flat (tree_of t.nodes root).leaves)) there ∙ entry_at at.before (get_or path 0 0) es at.after index at.leaves_are here

  -- the leaf has an entry
  pub held : (content : Content K V) × (slice_get t.nodes way.leaf ≡ Some content) × (1 ≤ entry_count content)
  held = (leaf_content es, slot-there, omega (arith, keys_count es, low-there))

  -- the entry is the last of the tree
  module _ (last : place ≡ length (flat (tree_of t.nodes root).leaves) - 1) where
    all : length (flat (tree_of t.nodes root).leaves) ≡ length (flat at.before) + length (es ++ flat at.after)
    all = ap (λ z. length (flat z)) at.leaves_are ∙ ap length (flat-append at.before (node (get_or path 0 0) es ∷ at.after)) ∙ length-append (flat at.before) (es ++ flat at.after)

    pub ends-there : suc place ≡ length (flat (tree_of t.nodes root).leaves)
    ends-there = omega (arith, all, last, length-append es (flat at.after), low-there)

    -- the index of the last entry of the tree is that of its leaf's last entry
    pub on-last : {read : ℕ} → LastRead t.nodes way.leaf read → OnWay t root way read place
    on-last {read} says = let is : read ≡ index = omega (arith, says (leaf_content es) slot-there, keys_count es, ends-there, all, length-append es (flat at.after), at.place_is, at.index_is, w.index_is, low-there) in
        rw is w

-- a tree of one leaf
pub taken-alone : {K V : Type 0} {most : ℕ} {old now : Table K V} {root place index : ℕ} {way : Way} (t : TakenOn most old now root way index place) → way.height ≡ 0 → EntryTaken most old now root place t.path t.indices 1
taken-alone t none = let one : t.size ≡ 1 = t.follows.size_is ∙ ap suc none in rw one at t.taken
