-- Removing an entry from the row above a level, whose key passes to the next entry: the answers of `remove_merged`.
use Rattle.bforest_core.proofs.table.Tables.{count-append, is_used, count-row, counts, row-same, row-split, row-join}
use Rattle.bforest_core.proofs.Words.{◌≡◌, ℕ, suc, ◌-◌, ◌≤◌, List, [], ◌∷◌, ◌++◌, length, drop, set, slice_get, Some, refl, sym, ◌∙◌, append_assoc}
use Rattle.bforest_core.proofs.Words.{length-append, arith, Heads, inner_content, entry_keys, entry_items, ◌+◌, ◌<◌, get_or, ap, IsUsed, entry_count}
use Rattle.bforest_core.proofs.Words.{with_key, Table, sizes, count, OneAbove, TwoAbove, Row, flat_map, node, flat, heads, head_of, numbers, FitRow, RowIn}
use Rattle.bforest_core.proofs.Words.{add-one, LoosenedRows, Rekeyed}
use Rattle.bforest_core.proofs.removal.Lifted.{Across, Other, above_top, above_written, across, flat_at, head-other, heads-put, lifted_above, n, next_in, old}
use Rattle.bforest_core.proofs.removal.Lifted.{place_at, rebuilt_same, renamed, rows_above}
use Rattle.bforest_core.proofs.removal.Asked.{ChildAt, Counts, KeyAt, ReadsKey, Rekeys, Removes, Seen, Writes, last_key, removed_last, removed_same, seen}
use Rattle.bforest_core.proofs.{removal.Asked.two_low, table.Stored.{some_same, item_count, read_same}, rows.LevelRows.{heads-append, sizes-append}}
use Rattle.bforest_core.proofs.table.Trading.{frees-after, Puts, puts, puts-then, row-put, trades-apart}

module _ {K V : Type 0} where
  -- without a row above there is no key to update
  pub rekey_top : {t : Table K V} {path indices up size : _} (w : OneAbove t path indices up size) (key : K) → size ≤ up →
      Rekeyed t t path indices up size w.rows (w.before ++ (key, w.x.1) ∷ w.after) (length w.before)
  rekey_top w key high = rebuilt_same (above_top w.above _ high (simp length-append))

  -- the level above the path's node and the next one
  module _ {t : Table K V} {path indices up size rows a x y b i : _} (s : Seen t path indices up size rows a x (y ∷ b) i) where
    open s use {d, d.{before, l, r, after, rest, whole}}

    abbrev index : ℕ
    index = get_or indices up 0

    abbrev keys : List K
    keys = drop 1 (entry_keys (old d))

    abbrev items : List ℕ
    items = entry_items (old d)

    -- the rows with another key of the next node
    abbrev pub Renamed : Table K V → K → Type 0
    Renamed u key = Rekeyed t u path indices up size rows (a ++ x ∷ (key, y.1) ∷ b) (length a)

    -- the rows once the entry was removed, and its key passed to the next
    abbrev pub Passed : Table K V → Type 0
    Passed u = LoosenedRows t u path indices up size rows (a ++ (x.0, y.1) ∷ b) (length a)

    -- the row after its node lost an entry, under rows above that have its keys
    loosened : {v u : Table K V} (es ns : _) {list : _} → length (old d) ≡ suc (length es) → 1 ≤ length es → length l ≤ length es →
        Other d es ns ((x.0, y.1) ∷ b) list → FitRow 4 8 (node (n d) (old d) ∷ ns) →
        RowIn inner_content t.nodes (before ++ node (n d) (old d) ∷ ns) → Rekeyed t v path indices (suc up) size rest list (length (heads before)) →
        Puts v u (n d) (inner_content es) → Passed u
    loosened {v} {u} es ns len some low o fits inside above w =
        let num = n d in let was = old d in let c = λ (i : ℕ). counts i before num was after rest t.chain in let c3 = λ (i : ℕ). ap (λ z. count i (num ∷ z)) o.1 in
        let row_v = row-same inner_content t.nodes v.nodes (before ++ node num was ∷ ns)
        (λ i some. above.frees.others i (omega (arith, c i, c3 i, count-row i before num was ns))) inside in
        let frees = frees-after (numbers (before ++ node num was ∷ after) ++ flat_map numbers rest) (numbers (before ++ node num es ∷ ns) ++ flat_map numbers above.rows')
        (λ i. omega (arith, c i, counts i before num es ns above.rows' u.chain, c3 i, above.frees.numbers_are i, count-append i (num ∷ []) (numbers after))) above.frees w.frees in
        record {
          before = before;
          entries = es;
          after = ns;
          rest = above.rows';
          on_level = record {
            inside = row-put inner_content before was es ns row_v w (omega (arith, ap (λ z. count num z) o.1));
            solid = d.solid;
            fits = fits.2;
            some = some;
            lost_one = omega arith;
            most_is = omega arith;
            above = above_written w (omega arith) (rw (← o.3) above.above);
            number_is = refl;
            entry_was = omega arith;
            apart = trades-apart frees whole.apart;
          };
          list_is = flat_at d es ((x.0, y.1) ∷ b) ns o.2;
          place_is = place_at d;
          was = λ fs slot. omega (arith, item_count fs, item_count was, ap entry_count (read_same t.nodes num d.slot_is slot));
          sizes_were = let same = o.0 in cc (sizes-append _ _);
          frees = rw d.rows_are frees;
        }

    module _ (m : ℕ) (value : Counts t (get_or path up i) m) where
      -- the next node has the same parent, where the key between the two was written
      module _ (more : index + 1 < m) (u key : _) (writes : Writes t u (get_or path up i) index key) where
        one : Puts t u (get_or path up i) (with_key (inner_content (old d)) index key)
        one = puts _ _ _ _ _ s.slot_is (writes keys items s.slot_is)

        behind : (ys : Heads K) × (r ≡ y ∷ ys) × (b ≡ ys ++ flat after)
        behind = next_in l x r index y b (flat after) d.b_is d.entry_is (omega (arith, s.counted m value))

        pub same_parent : Renamed u key
        same_parent = let w = behind in let es_is = ap (λ z. l ++ x ∷ z) w.1 ∙ sym (append_assoc l (x ∷ []) (y ∷ w.0)) in
            renamed d u _ y _ _ _ _ es_is (omega (arith, length-append l (x ∷ []))) (rw s.num_is at (writes keys items s.slot_is))
            (simp append_assoc (ap (λ z. l ++ x ∷ (key, y.1) ∷ z) (sym w.2)))

        pub remove_asks : IsUsed u (get_or path up i) × ChildAt u (get_or path up i) index
        remove_asks = (is_used _ _ _ one.here (cc (one.chain_is, s.none_chain)), (set keys index key, items, one.here, omega (arith, item_count (old d))))

        pub merge_same : (v j : _) → j ≡ index - 1 → ReadsKey t (get_or path up i) j key → Removes u v (get_or path up i) index → Passed v
        merge_same v j j_is reads removes = let w = behind in let es = l ++ (x.0, y.1) ∷ w.0 in let len = length-append l ((x.0, y.1) ∷ w.0) in
            let key_is = reads keys items s.slot_is in let v_is = removes (set keys index key) items one.here in
            let gone = removed_same V l x y w.0 key (cc (w.1, d.entry_is)) in let two =
            puts u v _ (inner_content es) _ one.here (cc (gone, w.1, d.entry_is)) in
            loosened es after (omega (arith, ap length w.1)) (omega arith) (omega arith)
            (refl, refl, simp (append_assoc, w.2), heads-put before (n d) (old d) es after (head-other (n d) l x.0 x.1 y.1 r w.0)) d.fit d.inside
            (rebuilt_same (rows_above d)) (rw s.num_is at (puts-then one two))

      -- the next node has the next parent
      module _ (less : m ≤ index + 1) where
        pub o : Across l r after y b
        o = across (n d) l x r after y b d.fit d.b_is (omega (arith, s.counted m value))

        l_some : 1 ≤ length l
        l_some = omega (arith, ap length o.l_is)

        -- the nodes behind the path's, and those of this row as entries of the level above, with this key
        abbrev others : K → Row K ℕ
        others key = node o.q ((key, y.1) ∷ o.ys) ∷ o.rest

        abbrev names : K → Heads K
        names key = heads before ++ (o.z.0, n d) ∷ (key, o.q) ∷ heads o.rest

        -- the first key of the next parent is in no slot of its row
        across_in : (key : K) → RowIn inner_content t.nodes (before ++ node (n d) (old d) ∷ others key)
        across_in key = let s = row-split _ _ _ _ d.inside in row-join _ _ _ (node (n d) (old d) ∷ others key) s.0 (s.1.0, rw o.after_is at s.1.1)

        across_other : (key es hs : _) → es ++ flat (others key) ≡ l ++ hs → head_of (n d) es ≡ (o.z.0, n d) ∷ [] → Other d es (others key) hs (names key)
        across_other key es hs flat_is head = (ap (λ z. sizes z) (sym o.after_is), ap (λ z. numbers z) (sym o.after_is), flat_is, simp (heads-append, head))

        pub named : heads (before ++ node (n d) (old d) ∷ after) ≡ names y.0
        named = heads-append before _ ∙ ap (λ z. heads before ++ (head_of (n d) (z ++ x ∷ r) ++ heads after)) o.l_is
            ∙ ap (λ z. heads before ++ (o.z.0, n d) ∷ heads z) o.after_is

        -- where the two parents are neighbours, the rows above are what the call one level up requires
        abbrev pub above_asks : TwoAbove t path indices (up + 1) size
        above_asks = record { rows = rest; before = heads before; x = (o.z.0, n d); y = (y.0, o.q); after = heads o.rest; above = rw add-one (rw named at (rows_above d)) }

        pub index_some : 1 ≤ index
        index_some = omega (arith, l_some)

        pub last_key_asks : KeyAt t (get_or path up i) (index - 1)
        last_key_asks = s.low_key_asks (index - 1) (omega (arith, index_some))

        -- the key of the next parent was written above
        module _ (v key : _) (rekeys : Rekeys t v path indices (up + 1) size key) where
          rebuilt : Rekeyed t v path indices (suc up) size rest (names key) (length (heads before))
          rebuilt = rw add-one at (rekeys above_asks)

          pub next_parent : Renamed v key
          next_parent =
              lifted_above d _ _ (x ∷ (key, y.1) ∷ b) refl
              (across_other key _ _ (append_assoc l (x ∷ r) (flat (others key)) ∙ ap (λ z. l ++ x ∷ (z ++ flat (others key))) o.r_is ∙ ap (λ z. l ++ x ∷ (key, y.1) ∷ z) (sym o.b_is)) (ap (λ z. head_of (n d) (z ++ x ∷ r)) o.l_is)) (rw o.after_is at d.fit) (across_in key) rebuilt

          slot_then : slice_get v.nodes (n d) ≡ Some (inner_content (old d))
          slot_then = rebuilt.frees.others (n d) d.none_rest ∙ d.slot_is

          pub remove_last_asks : IsUsed v (get_or path up i) × ChildAt v (get_or path up i) index
          remove_last_asks = (rw s.num_is (is_used _ _ _ slot_then (cc (rebuilt.frees.chain_is, d.none_chain))), (keys, items, cc (s.num_is, slot_then), omega (arith, item_count (old d))))

          pub merge_next : (u : _) → ReadsKey t (get_or path up i) (index - 1) key → Removes v u (get_or path up i) index → Passed u
          merge_next u reads removes = let num_is = s.num_is in let u_is = removes keys items (cc (slot_then)) in
              let key_is : key ≡ x.0 = some_same (cc (last_key l x l_some, o.r_is, d.entry_is, reads keys items s.slot_is)) in
              loosened l (others x.0) (omega (arith, ap length o.r_is)) l_some (omega arith)
              (across_other x.0 l _ (ap (λ z. l ++ (x.0, y.1) ∷ z) (sym o.b_is)) (ap (λ z. head_of (n d) z) o.l_is)) (rw o.after_is at d.fit) (across_in x.0)
              (rw key_is at rebuilt) (puts _ _ _ _ _ slot_then (cc (removed_last V l x l_some, o.r_is, d.entry_is)))

  -- the parent of the path's node
  pub here : {t : Table K V} {path indices up size : _} (w : TwoAbove t path indices up size) (i : ℕ) → length path ≡ 17 → size ≤ 17 →
      Seen t path indices up size w.rows w.before w.x (w.y ∷ w.after) i
  here w i wide height = seen _ w.x (w.y ∷ w.after) w.above (two_low w) i wide height
