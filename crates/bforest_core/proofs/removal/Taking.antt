-- Removing the entry where a path stands from its leaf, which has others: the answers of `remove`.
use Rattle.bforest_core.proofs.Words.{◌≡◌, ℕ, ◌≤◌, ◌<◌, Some, List, [], ◌∷◌, ◌++◌, length, get_or, slice_get, refl, sym, ap, ◌∙◌, length-append, arith}
use Rattle.bforest_core.proofs.Words.{Content, without_entry, Table, node, heads, leaf_content, entry_keys, Above, StandsIn, LeafLoss, nil_from_length}
use Rattle.bforest_core.proofs.Words.{OneAbove, get_or_default, entry_count, ◌≢◌, Leaf, HasOthers, IsSingle, IsUsed, with_node, head_of, entry_items, Rekeyed}
use Rattle.bforest_core.proofs.removal.LeafAt.{LeafAt, as_many_heads, leaf_at, leaf_count, leaf_loss, without_entry_is}
use Rattle.bforest_core.proofs.{removal.Lifted.{above_top, above_written, rebuilt_same}, removal.Asked.{NodeAt, some_first}}
use Rattle.bforest_core.proofs.{table.Stored.{keys_count, read_same, some_same}, table.Tables.is_used, rows.LevelRows.heads-append}
use Rattle.bforest_core.proofs.table.Trading.{Puts, puts, takes}

module _ {K V : Type 0} where
  -- a leaf with a key of this index
  abbrev pub LeafKeyAt : Table K V → ℕ → ℕ → Type 0
  LeafKeyAt t number index = (keys : List K) × (vals : List V) × (slice_get t.nodes number ≡ Some (Leaf keys vals)) × (index < length keys)

  module _ {most : ℕ} {t : Table K V} {path indices size tree place : _} (s : StandsIn most t path indices size tree place) where
    pub d : LeafAt most t path indices size tree place
    d = leaf_at s

    open d use {before, l, x, r, after}

    abbrev n : ℕ
    n = get_or path 0 0

    abbrev pub es : List (K × V)
    es = l ++ x ∷ r

    -- the leaf is used
    pub leaf_used : IsUsed t n
    leaf_used = is_used _ _ _ d.slot_is d.none_chain

    module _ {u : Table K V} (h : HasOthers t u path indices) where
      pub more : 1 ≤ length (l ++ r)
      more = omega (arith, leaf_count _ (h.x ∷ h.y ∷ h.more) (slice_get t.nodes n) d.slot_is h.slot_was, length-append l (x ∷ r), length-append l r)

      pub w : Puts t u n (leaf_content (l ++ r))
      w = let same = read_same _ n d.slot_is h.slot_was in puts t u n _ _ d.slot_is (cc (without_entry_is l x r (get_or indices 0 0) d.index_is))

      -- where the leaf is the whole tree, there is no row above that names it
      pub alone_loss : size ≤ 1 → LeafLoss most t u path indices size tree place
      alone_loss low = let len = as_many_heads before n es (l ++ r) after (omega (arith, length-append l (x ∷ r))) more in
          leaf_loss d more w (rebuilt_same (above_top (above_written w d.none_rows d.above) _ low len))

      -- the rows above, which name the leaf by its old first key
      pub above_then : (k : K) → ((rs : _) → head_of n (l ++ x ∷ rs) ≡ (k, n) ∷ []) →
          Above u path indices 1 size tree.above (heads before ++ (k, n) ∷ heads after) (length (heads before))
      above_then k head_is = rw (← (heads-append before (node n es ∷ after) ∙ ap (λ z. heads before ++ (z ++ heads after)) (head_is r)))
          (above_written w d.none_rows d.above)

      -- an entry that is not the first was removed
      pub behind : 0 < get_or indices 0 0 → LeafLoss most t u path indices size tree place
      behind high = let f = some_first l (omega (arith, d.index_is)) in
          let new = sym (heads-append before (node n (l ++ r) ∷ after) ∙ ap (λ z. heads before ++ (head_of n (z ++ r) ++ heads after)) f.2) in
          leaf_loss d more w (rebuilt_same (rw new at (above_then f.0.0 (λ rs. ap (λ z. head_of n (z ++ x ∷ rs)) f.2))))

      -- the first entry was removed
      module _ (first : get_or indices 0 0 ≤ 0) where
        -- the entry after the removed one
        pub next : (y : _) × (others : _) × (l ++ r ≡ y ∷ others)
        next = some_first _ more

        abbrev pub above_asks : OneAbove u path indices 1 size
        above_asks = record { rows = tree.above; before = heads before; x = (x.0, n); after = heads after; above = above_then x.0 (λ rs. ap (λ z. head_of n (z ++ x ∷ rs)) (nil_from_length l (omega (arith, d.index_is)))) }

    -- the leaf as the code reads it
    module _ (i : ℕ) (wide : 0 < length path) where
      abbrev read : ℕ
      read = get_or path 0 i

      num_is : read ≡ n
      num_is = get_or_default path 0 i 0 wide

      slot : slice_get t.nodes read ≡ Some (leaf_content es)
      slot = cc (num_is, d.slot_is)

      pub counted_asks : NodeAt t read
      counted_asks = (leaf_content es, slot, λ free. free)

      module _ (m : ℕ) (value : (content : Content K V) → slice_get t.nodes read ≡ Some content → m ≡ entry_count content) where
        count_is : m ≡ length es
        count_is = value (leaf_content es) slot ∙ keys_count es

        some_entry : (y : _) × (others : _) × (es ≡ y ∷ others)
        some_entry = some_first es (omega (arith, length-append l (x ∷ r)))

        -- the leaf has no other entry
        pub single : m ≡ 1 → IsSingle t t n
        single one = let f = some_entry in record { entry = f.0; slot_was = cc (d.slot_is, nil_from_length f.1 (omega (arith, count_is, ap length f.2))); freed_is = refl }

        -- the leaf has another entry
        pub others : m ≢ 1 → (y z : K × V) × (rest : List (K × V)) × (slice_get t.nodes n ≡ Some (leaf_content (y ∷ z ∷ rest)))
        others more = let f = some_entry in let k = some_first f.1 (omega (arith, count_is, ap length f.2)) in (f.0, k.0, k.1, cc (d.slot_is))

      pub out_asks : IsUsed t read × LeafKeyAt t read (get_or indices 0 0)
      out_asks = (rw num_is leaf_used, (entry_keys es, entry_items es, slot, omega (arith, keys_count es, d.index_is, length-append l (x ∷ r))))

      -- the entry was removed from the leaf, which has others
      pub has_others : (u : _) (has : (y z : _) × (rest : _) × (slice_get t.nodes n ≡ Some (leaf_content (y ∷ z ∷ rest)))) →
          ((keys : List K) (vals : List V) → slice_get t.nodes read ≡ Some (Leaf keys vals) → u ≡ with_node t read (without_entry (Leaf keys vals) (get_or indices 0 0))) → HasOthers t u path indices
      has_others u has takes = let all = has.0 ∷ has.1 ∷ has.2 in
          record { x = has.0; y = has.1; more = has.2; slot_was = has.3; new_is = cc (takes (entry_keys all) (entry_items all) (simp (num_is, has.3)), num_is) }

      module _ {u : Table K V} (h : HasOthers t u path indices) (first : get_or indices 0 0 ≤ 0) where
        slot_then : slice_get u.nodes read ≡ Some (leaf_content ((next h first).0 ∷ (next h first).1))
        slot_then = cc ((w h).here, num_is, (next h first).2)

        pub first_asks : LeafKeyAt u read 0
        first_asks = let f = next h first in (entry_keys (f.0 ∷ f.1), entry_items (f.0 ∷ f.1), slot_then, omega arith)

        -- the rows above have the leaf's new first key
        pub ahead : (v key : _) → ((keys : List K) (vals : List V) → slice_get u.nodes read ≡ Some (Leaf keys vals) → slice_get keys 0 ≡ Some key) →
            ((w : OneAbove u path indices 1 size) → Rekeyed u v path indices 1 size w.rows (w.before ++ (key, w.x.1) ∷ w.after) (length w.before)) →
            LeafLoss most t v path indices size tree place
        ahead v key reads rekeys = let f = next h first in
            let new : heads before ++ ((key, n) ∷ heads after) ≡ heads (before ++ node n (l ++ r) ∷ after) =
            simp ((some_same (reads (entry_keys (f.0 ∷ f.1)) (entry_items (f.0 ∷ f.1)) slot_then)), f.2, heads-append) in
            leaf_loss d (more h) (w h) (rw (← new) (rekeys (above_asks h first)))
