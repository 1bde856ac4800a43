-- Looking a key up in the leaf in which a search for it ends, and putting a value in there: the answers of `look_up_in_leaf` and
-- `put_in_leaf`.
use Rattle.bforest_core.proofs.Words.{◌≡◌, ℕ, suc, ◌<◌, ◌↔◌, IsTrue, Option, Some, None, List, map, length, insert, slice_get, sym, ap, ◌∙◌, subst}
use Rattle.bforest_core.proofs.Words.{Table, IsFullAt, flat, sizes, sizes_of, gain_above, growth, Placed, tree_of, IsUnion, Changes, PlacedUnder, StandsUnder}
use Rattle.bforest_core.proofs.Words.{Ok, refl, put_answer, with_put, search_of-keys_of, value_for-absent, value_for-present, Bool, Result, Err, get_or, set}
use Rattle.bforest_core.proofs.Words.{nat_lt, if◌then◌else◌, true, false, length-set, EndsIn, PutsInLeaf, IsUsed, entry_count, entry_keys, is_present}
use Rattle.bforest_core.proofs.Words.{LooksInLeaf, leaf_content, place, value_for, search_of, with_entry, with_node, with_value_at, need_above, is_some, option_map}
use Rattle.bforest_core.proofs.{Words.{arith, get_or-set_same, lt-ltb, ltb-true, PutsEntry}, union.Written.{entry-used, value-written}}
use Rattle.bforest_core.proofs.{insertion.Insertion.{placed-under, put-here}, table.Stored.read_same, insertion.Nodes.put_full}
use Rattle.bforest_core.proofs.{insertion.LeafSpot.{leaf_spot, put_inserts, site}, walks.LeafSearch.items-read}
use Rattle.bforest_core.proofs.{table.Tables.is_used, table.Read.slot-is}
use Rattle.bforest_nodes.specs.Content.{with_value as content_with}
use Rattle.bforest_nodes.specs.Entries.{with_value}
use Rattle.std.specs.declared.cmp.Ordering.{Ordering}

-- a present key has a value
pub valued : {K V : Type 0} (o : Option (K × V)) → is_some o ≡ true → ¬ (option_map (λ e. e.1) o ≡ None)
valued None here none = absurd (cc)
valued (Some e) here none = absurd (cc)

module _ {K V : Type 0} {cmp : K → K → Ordering} (most : ℕ) {table : Table K V} {root leaf key path indices size : _} (union : IsUnion most table) (e : EndsIn cmp table root key leaf path indices size) where
  abbrev es : List (K × V)
  es = e.entries

  abbrev list : List (K × V)
  list = flat (tree_of table.nodes root).leaves

  abbrev at : ℕ
  at = place cmp list key

  -- the indices of the path at the key's place
  abbrev js : List ℕ
  js = set indices 0 (place cmp es key)

  -- the path's index is the key's place in the leaf
  pub index_is : get_or js 0 0 ≡ place cmp es key
  index_is = get_or-set_same indices 0 (place cmp es key) 0 e.indexed

  -- the entries of the path's leaf
  pub slot : slice_get table.nodes (get_or path 0 0) ≡ Some (leaf_content es)
  slot = cc

  -- where the key is present, the path stands on its entry
  pub stands : is_present cmp es key ≡ true → StandsUnder table.nodes root path js size at
  stands here = e.present (cc)

  placed : is_present cmp es key ≡ false → PlacedUnder table.nodes root path js size at
  placed none = e.absent (cc)

  is_placed : is_present cmp es key ≡ false → Placed most table path js size (tree_of table.nodes root) at
  is_placed none = placed-under _ _ union (placed none)

  used_by : (b : Bool) → is_present cmp es key ≡ b → IsUsed table leaf
  used_by true here = rw (← e.leaf_is) (entry-used union (stands here)).0
  used_by false none = rw (← e.leaf_is) (is_used table (get_or path 0 0) (leaf_content es) slot (leaf_spot (is_placed none)).none_chain)

  -- the leaf is used
  pub leaf-used : IsUsed table leaf
  leaf-used = used_by _ refl

  -- what looking the key up in the leaf tells of the list
  pub looks-in-leaf : {result : ℕ × Option V} → result.0 ≡ place cmp es key → result.1 ≡ value_for cmp es key → LooksInLeaf cmp table root key leaf path indices size result
  looks-in-leaf place_is value_is = record {
    value = value_is ∙ sym e.value_is;
    present = λ here. rw (← e.leaf_is, place_is, ← index_is) (e.present here).stands.leaf;
    absent = λ none. rw place_is (e.absent none);
  }

  module _ (value : V) (answer : Result (Option V) ℕ) (new : Table K V) (answer_is : answer ≡ put_answer most (leaf_content es) (search_of cmp (entry_keys es) key)) (new_is : new ≡ with_node table leaf (with_put most (leaf_content es) (search_of cmp (entry_keys es) key) key value)) where
    -- the answer and the table are as is promised, and the leaf is full where the key's place is answered
    abbrev Both : Type 0
    Both = PutsInLeaf cmp table root key most value path indices size answer new × ((index : ℕ) → answer ≡ Err index → IsFullAt most table.nodes leaf)

    -- where the key is present, its value is written
    overwrites : is_present cmp es key ≡ true → Both
    overwrites here = let p = place cmp es key in let found = search_of-keys_of cmp es key ∙ ap (λ b. if b then Ok p else Err p) here in
        let said = answer_is ∙ ap (λ z. put_answer most (leaf_content es) z) found ∙ ap Ok (items-read es p ∙ sym (value_for-present cmp es key here)) in
        let after = new_is ∙ ap (λ z. with_node table leaf (with_put most (leaf_content es) z key value)) found in
        let at_index : with_value_at table (get_or path 0 0) (get_or js 0 0) value ≡ with_node table leaf (content_with (leaf_content es) p value) =
        cc (index_is, slot-is table.nodes leaf e.slot_is) in
        let changes = subst (λ z. Changes most table z root root (with_value list at value) (sizes_of (tree_of table.nodes root))) (cc (after)) (value-written union (stands here) value).0 in
        let never = λ (is : answer ≡ Ok None). valued _ here (let same = sym said ∙ is in cc) in (
          record {
            ok = rw said (sym e.value_is);
            slots = cc (after, length-set _ _ _);
            chain = cc (after);
            memory = cc (after);
            written = λ old is. changes;
            inserted = λ is. absurd (never is);
            takes = λ is. absurd (never is);
            room = λ is. absurd (never is);
            levels = λ is. absurd (never is);
            full = λ index is. absurd cc;
            placed = λ index is. absurd cc;
            refused = λ index is. absurd cc;
          },
          λ index is. absurd cc,
        )

    module _ (none : is_present cmp es key ≡ false) where
      abbrev has_room : Bool
      has_room = nat_lt (entry_count (leaf_content es)) most

      found : search_of cmp (entry_keys es) key ≡ Err (place cmp es key)
      found = cc (search_of-keys_of cmp es key)

      said : answer ≡ (if has_room then Ok None else Err (place cmp es key))
      said = cc (found)

      after : new ≡ with_node table leaf (if has_room then with_entry (leaf_content es) (place cmp es key) key value else leaf_content es)
      after = cc (found)

      put_says : PutsEntry most table new (get_or path 0 0) (get_or js 0 0) key value has_room
      put_says = record {
        room = λ keys vals is. subst (λ z. IsTrue has_room ↔ (entry_count z < most)) (sym (read_same table.nodes (get_or path 0 0) slot is)) (λ fits. ltb-true (entry_count (leaf_content es)) most fits, λ less. lt-ltb (entry_count (leaf_content es)) most less);
        node = λ keys vals is. subst (λ z. new ≡ with_node table (get_or path 0 0) (if has_room then with_entry z (get_or js 0 0) key value else z)) (sym (read_same table.nodes (get_or path 0 0) slot is)) (rw (e.leaf_is, index_is) after);
      }

      gone : value_for cmp list key ≡ None
      gone = cc (value_for-absent cmp es key none)

      -- where the leaf has room, the entry is inserted
      inserts_there : has_room ≡ true → Both
      inserts_there fits = let tree = tree_of table.nodes root in let ok : answer ≡ Ok None = cc (said) in
          let inserts = put_inserts (is_placed none) 0 (omega (arith, e.wide)) put_says fits in let levels = ap (λ z. suc (length (gain_above z (map sizes tree.above)))) inserts.0 in
          let put = put-here union (placed none) inserts.1 in
          let put_is = after ∙ ap (λ b. with_node table leaf (if b then with_entry (leaf_content es) (place cmp es key) key value else leaf_content es)) fits in (
            record {
              ok = rw ok (sym gone);
              slots = simp (put_is, length-set table.nodes leaf (with_entry (leaf_content es) (place cmp es key) key value));
              chain = cc;
              memory = cc;
              written = λ old is. absurd cc;
              inserted = λ is. subst (λ z. Changes most table new root z (insert list at (key, value)) (growth most at (sizes_of tree))) (put.same_root.1 levels) put.changes;
              takes = λ is. put.takes;
              room = λ is. ap (λ z. need_above z (map sizes tree.above)) inserts.0;
              levels = λ is. levels;
              full = λ index is. absurd cc;
              placed = λ index is. absurd cc;
              refused = λ index is. absurd cc;
            },
            λ index is. absurd cc,
          )

      -- where the leaf is full, nothing changes
      refuses : has_room ≡ false → Both
      refuses past = let err : answer ≡ Err (place cmp es key) = cc (said) in
          let full = put_full (site (is_placed none) (key, value)) 0 (omega (arith, e.wide)) put_says past in let same = full.1 in (
            record {
              ok = rw err tt;
              slots = cc;
              chain = cc;
              memory = cc;
              written = λ old is. absurd cc;
              inserted = λ is. absurd cc;
              takes = λ is. absurd cc;
              room = λ is. absurd cc;
              levels = λ is. absurd cc;
              full = λ index is. gone;
              placed = λ index is. subst (λ z. PlacedUnder table.nodes root path (set indices 0 z) size at) (let eq = sym err ∙ is in cc) (placed none);
              refused = λ index is. same;
            },
            λ index is. rw (← e.leaf_is) full.0,
          )

      by_room : (b : Bool) → has_room ≡ b → Both
      by_room true fits = inserts_there fits
      by_room false past = refuses past

    by_presence : (b : Bool) → is_present cmp es key ≡ b → Both
    by_presence true here = overwrites here
    by_presence false none = by_room none (nat_lt (entry_count (leaf_content es)) most) refl

    both : Both
    both = by_presence _ refl

    pub puts-in-leaf : PutsInLeaf cmp table root key most value path indices size answer new
    puts-in-leaf = both.0

    pub is-full : (index : ℕ) → answer ≡ Err index → IsFullAt most table.nodes leaf
    is-full = both.1
