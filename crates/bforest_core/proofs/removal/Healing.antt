-- Removing a key from the leaf in which a search for it ends, and restoring the tree then: the answers of `take_from_leaf`, `heal` and `heal_alone`.
use Rattle.bforest_core.proofs.Words.{get_or_default, take_answer, with_taken, search_of-keys_of, value_for-absent, value_for-present, ◌≡◌, ℕ, Bool, IfSome}
use Rattle.bforest_core.proofs.Words.{Option, Some, None, Ok, Err, List, option_map, set, if◌then◌else◌, true, false, refl, ap, ◌∙◌, EndsIn, EntryTaken}
use Rattle.bforest_core.proofs.Words.{TakesFromLeaf, IsUnion, entry_keys, flat, is_present, leaf_content, place, search_of, tree_of, value_for, with_node}
use Rattle.bforest_core.proofs.Words.{set-set, length-remove, ◌≢◌, ◌+◌, ◌/◌, ◌≤◌, ◌<◌, ◌∷◌, ◌++◌, arith, get_or, inl, inr, length, length-append, slice_get}
use Rattle.bforest_core.proofs.Words.{nil_from_length, Content, Free, HasOthers, IsSingle, IsUsed, LeafLoss, Removed, Shrinks, StandsIn, Unbalanced, Table}
use Rattle.bforest_core.proofs.{Words.{IsLeafCapacity, Loses, Tree, half_of, suc, ◌-◌, front_of, root_of, with_freed, without_entry}, table.Lists.set-kept, table.Tables.is_used}
use Rattle.bforest_core.proofs.{table.Stored.keys_count, insertion.LeafPut.{index_is, slot, stands, valued}, walks.LeafSearch.items-read}
use Rattle.bforest_core.proofs.{removal.LeafAt.{LeafAt, alone_last, end_last, leaf_at, leaf_count}, removal.Removal.{outcome, removal, stands_in}}
use Rattle.bforest_core.proofs.{removal.Asked.{Counts, NodeAt, some_first}, removal.LeafEmptied.emptied_tree, removal.Removing.kept_removed}
use Rattle.bforest_core.proofs.{removal.Taking.alone_loss, rows.Tops.root-stands, union.Unions.rooted, table.Trading.puts}
use Rattle.std.specs.declared.cmp.Ordering.{Ordering}

module _ {V : Type 0} (index : ℕ) where
  -- a value with its index, and the value of it
  value-back : (o : Option V) → option_map (λ (e : ℕ × V). e.1) (option_map (λ (v : V). (index, v)) o) ≡ o
  value-back None = refl
  value-back (Some v) = refl

  -- what holds of the index holds of a value with it
  at-index : (P : ℕ → Type 0) → P index → (o : Option V) → IfSome {T = ℕ × V} (option_map (λ v. (index, v)) o) (λ e. P e.0)
  at-index P p None = tt
  at-index P p (Some v) = p

module _ {K V : Type 0} {cmp : K → K → Ordering} (most : ℕ) {table root leaf key path indices size : _} (union : IsUnion most table)
    (e : EndsIn cmp table root key leaf path indices size)
    (answer : Option (ℕ × V)) (new : _) (answer_is : answer ≡ take_answer (leaf_content e.entries) (search_of cmp (entry_keys e.entries) key))
    (new_is : new ≡ with_node table leaf (with_taken (leaf_content e.entries) (search_of cmp (entry_keys e.entries) key))) where
  open e use {entries as es}

  abbrev at : ℕ
  at = place cmp (flat (tree_of table.nodes root).leaves) key

  -- where the key is present, its entry is removed
  takes : is_present cmp es key ≡ true → TakesFromLeaf cmp table root key most path indices size answer new
  takes here = let p = place cmp es key in let found : search_of cmp (entry_keys es) key ≡ Ok p = cc (search_of-keys_of cmp es key) in
      let said : answer ≡ option_map (λ v. (p, v)) (value_for cmp es key) = cc (items-read es p, value_for-present cmp es key here) in
      let taken : EntryTaken most table new root at path (set indices 0 p) size = record {
        union = union;
        stood = stands most union e here;
        leaf = record { entries = es; slot_was = slot most union e; new_is = cc (index_is most union e) };
      } in
      record {
        value = cc (value-back p (value_for cmp es key));
        taken = rw said (at-index p (λ i. EntryTaken most table new root at path (set indices 0 i) size) taken (value_for cmp es key));
        absent = λ none. absurd (valued _ here (cc (value-back p (value_for cmp es key))));
      }

  -- where it is absent, nothing changes
  leaves : is_present cmp es key ≡ false → TakesFromLeaf cmp table root key most path indices size answer new
  leaves none = let p = place cmp es key in let found = search_of-keys_of cmp es key ∙ ap (λ b. if b then Ok p else Err p) none in
      let after = new_is ∙ ap (λ z. with_node table leaf (with_taken (leaf_content es) z)) found in
      record {
        value = cc (value_for-absent cmp es key none);
        taken = rw (answer_is ∙ ap (λ z. take_answer (leaf_content es) z) found) tt;
        absent = λ is. simp (after, set-kept table.nodes leaf (leaf_content es) e.slot_is);
      }

  by_presence : (b : Bool) → is_present cmp es key ≡ b → TakesFromLeaf cmp table root key most path indices size answer new
  by_presence true here = takes here
  by_presence false none = leaves none

  pub takes-from-leaf : TakesFromLeaf cmp table root key most path indices size answer new
  takes-from-leaf = by_presence _ refl

pub half_left : (n : ℕ) → IsLeafCapacity n → n - n / 2 ≡ half_of n
half_left n c = omega (arith, c.odd)

-- a leaf that lost an entry, as rebalancing it requires it
abbrev pub leaf_loses : {K V : Type 0} {n : ℕ} {table : Table K V} {path indices : List ℕ} {size root : ℕ} → IsLeafCapacity n → Unbalanced n table path indices size root → Loses n (n - n / 2) table path indices 0 size
leaf_loses {n} capacity u = let l = u.lost in
    record { leaf = true; capacity = λ is. capacity; least_is = half_left n capacity; before = l.before; entries = l.entries; after = l.after; rest = l.rest; on = l.on_level; at_entry = λ some. u.at_entry (omega (arith, some, half_left n capacity)) }

module _ {K V : Type 0} {most : ℕ} {old now : Table K V} {root place path indices size : _} (e : EntryTaken most old now root place path indices size) where
  abbrev tree : Tree K V
  tree = tree_of old.nodes root

  abbrev leaf : ℕ
  leaf = get_or path 0 0

  abbrev es : List (K × V)
  es = e.leaf.entries

  abbrev left : Content K V
  left = without_entry (leaf_content es) (get_or indices 0 0)

  -- the path stood in the tree
  pub stood_in : StandsIn most old path indices size tree place
  stood_in = stands_in most old e.union e.stood

  -- the tree had this root
  pub root_was : root_of tree ≡ root
  root_was = (rooted _ _ _ e.union e.stood.root_is).root_is

  -- the leaf of a path of one level is the root
  pub leaf_is_root : size ≡ 1 → root ≡ leaf
  leaf_is_root one = cc (root_was, root-stands stood_in.fit stood_in.stands)

  d : LeafAt most old path indices size tree place
  d = leaf_at stood_in

  pub within : get_or indices 0 0 < length es
  within = omega (arith, d.index_is, length-append d.l (d.x ∷ d.r), leaf_count _ (d.l ++ d.x ∷ d.r) (slice_get old.nodes leaf) e.leaf.slot_was d.slot_is)

  slot_is : slice_get now.nodes leaf ≡ Some left
  slot_is = (puts _ _ _ _ _ e.leaf.slot_was e.leaf.new_is).here

  -- the leaf is used
  pub leaf_used : IsUsed now leaf
  leaf_used = is_used _ _ _ slot_is (cc (d.none_chain))

  -- the effect of a removal from the tree on the table
  pub settled : {new : _} {Now : Tree K V → Type 0} {root' : ℕ} → Removed most old new path Now tree place root' → Shrinks most old new path root place (Some root')
  settled r = (removal _ _ _ _ e.union e.stood r).shrinks

  -- the leaf, as the code reads it
  pub read_is : (i : ℕ) → 0 < length path → get_or path 0 i ≡ leaf
  read_is i wide = get_or_default path 0 i 0 wide

  module _ (read : ℕ) (num_is : read ≡ leaf) where
    slot_read : slice_get now.nodes read ≡ Some left
    slot_read = cc (slot_is)

    pub counted_asks : NodeAt now read
    counted_asks = (left, slot_read, λ free. free)

    module _ (m : ℕ) (value : Counts now read m) where
      pub count_is : m + 1 ≡ length es
      count_is = omega (arith, value left slot_read, length-remove (entry_keys es) (get_or indices 0 0) (omega (arith, within, keys_count es)), keys_count es)

      -- the entry was the leaf's only one
      pub single : m ≡ 0 → IsSingle old now leaf
      single none =
          let h = some_first es (omega (arith, within)) in let one = h.2 ∙ ap (λ z. h.0 ∷ z) (nil_from_length h.1 (omega (arith, count_is, ap length h.2))) in
          record { entry = h.0; slot_was = cc; freed_is = cc (set-set old.nodes leaf left (Free (front_of old.chain))) }

      -- the leaf has others
      pub others : m ≢ 0 → HasOthers old now path indices
      others some = let h = some_first es (omega (arith, within)) in let k = some_first h.1 (omega (arith, count_is, ap length h.2)) in
          let two = h.2 ∙ ap (λ z. h.0 ∷ z) k.2 in record { x = h.0; y = k.0; more = k.1; slot_was = cc; new_is = cc }

      -- the leaf has others, and the rows above have its first key
      module _ {v : Table K V} (l : LeafLoss most old v path indices size tree place) where
        pub left_is : m ≡ length l.entries
        left_is = omega (arith, count_is, l.was es e.leaf.slot_was)

        -- the tree where the leaf is still half full
        pub kept_full : most / 2 < m → Shrinks most old v path root place (Some root)
        kept_full high = settled (kept_removed stood_in l root_was (λ z. Unit {0}) (inl (omega (arith, left_is))) (λ z is. tt))

        -- the tree where the entry was its last
        pub kept_last : suc place ≡ length (flat tree.leaves) → Shrinks most old v path root place (Some root)
        kept_last last = settled (kept_removed stood_in l root_was (λ z. Unit {0}) (inr (end_last l last)) (λ z is. tt))

        -- the leaf is less than half full
        abbrev pub unbalanced_by : m ≤ most / 2 → Unbalanced most v path indices size root
        unbalanced_by low = record { old = old; tree = tree; place = place; stands = stood_in; root_is = root_was; lost = l; at_entry = λ high. absurd (omega (arith, left_is)) }

      module _ (some : m ≢ 0) (v : _) (renews : (t tree' place' : _) → StandsIn most t path indices size tree' place' → HasOthers t now path indices → LeafLoss most t v path indices size tree' place') where
        abbrev pub lost : LeafLoss most old v path indices size tree place
        lost = renews old tree place stood_in (others some)

        pub kept : most / 2 < m → Shrinks most old v path root place (Some root)
        kept high = kept_full lost high

        abbrev pub unbalanced : m ≤ most / 2 → Unbalanced most v path indices size root
        unbalanced low = unbalanced_by lost low

      -- the tree of one leaf that has others
      pub alone_kept : size ≡ 1 → 0 < m → Shrinks most old now path root place (Some root)
      alone_kept one some = let s = stood_in in let l = alone_loss s (others (λ none. omega arith)) (omega arith) in
          settled (kept_removed s l root_was (λ z. Unit {0}) (inr (alone_last l (omega arith))) (λ z is. tt))

      -- the tree of one leaf, which had one entry
      pub alone_freed : size ≡ 1 → m ≤ 0 → (v : _) → v ≡ with_freed now read → Shrinks most old v path root place None
      alone_freed one none v freed = let alone = single (omega arith) in
          (outcome most old v (λ z. Unit {0}) e.union e.stood None tt (λ is. emptied_tree e.union.1.capacity alone stood_in v (cc (num_is, alone.freed_is)) one)).shrinks
