-- Removing the entry of a level's rightmost node, which was removed, and the nodes that this empties: the answers of `remove_emptied`.
use Rattle.bforest_core.proofs.Words.{slice_get, ◌≡◌, ℕ, suc, ◌+◌, ◌≤◌, Some, List, [], ◌∷◌, ◌++◌, map, length, get_or, refl, sym, ap, ◌∙◌, append_assoc}
use Rattle.bforest_core.proofs.Words.{length-append, arith, inner_content, Row, flat_map, Table, node, flat, heads, numbers, FitRow, Solid, entry_keys, count}
use Rattle.bforest_core.proofs.Words.{Distinct, Above, nil_from_length, ◌≢◌, entry_items, ◌-◌, drop, Heads, Rows, append-nil, with_freed, sizes, loss_above}
use Rattle.bforest_core.proofs.Words.{root_above, LastAbove, nodes_up, Dropped, rebalanced, add-one}
use Rattle.bforest_core.proofs.table.Tables.{count-append, counts, count-same, row-split, row-same, rows-same}
use Rattle.bforest_core.proofs.{rows.LevelRows.{flat-append, sizes-append, Solid-full, heads-append, FitRow-join}, rows.Tops.top_rows}
use Rattle.bforest_core.proofs.removal.Asked.{some_first, no_nodes, Counts, Removes, Seen, last_low, seen, removed_last}
use Rattle.bforest_core.proofs.{removal.Lifted.{heads-put, above_same, rows_above}, removal.Merge.{placed, loss_level, lost_above}}
use Rattle.bforest_core.proofs.{removal.Rebalance.rebalanced_last, removal.Collapse.heads-flat}
use Rattle.bforest_core.proofs.table.Trading.{not_there, trades-wider, frees-then, puts, freed_other, frees-one, row-put}

-- solid nodes fit as a row
pub fit_solid : {K X : Type 0} (half most : ℕ) → 1 ≤ half → (row : Row K X) → Solid half most row → FitRow half most row
fit_solid half most one [] s = tt
fit_solid half most one (node m es ∷ []) s = (omega arith, s.1, tt)
fit_solid half most one (node m es ∷ next ∷ ns) s = (s.0, s.1, fit_solid _ _ one (next ∷ ns) s.2)

-- a row with an entry has a head
some_heads : {K X : Type 0} (row : Row K X) → 1 ≤ length (flat row) → 1 ≤ length (heads row)
some_heads [] some = some
some_heads (node num [] ∷ row) some = some_heads row some
some_heads (node num (e ∷ es) ∷ row) some = omega arith

-- the last element of a list
pub record LastOf {A : Type 0} (xs : List A) : Type 0 where
  pub init : List A
  pub last : A
  pub is : xs ≡ init ++ last ∷ []

pub last_of : {A : Type 0} (xs : List A) → 1 ≤ length xs → LastOf xs
last_of [] some = absurd (omega arith)
last_of (x ∷ []) some = record { init = []; last = x; is = refl }
last_of (x ∷ y ∷ xs) some = let r = last_of (y ∷ xs) (omega arith) in record { init = x ∷ r.init; last = r.last; is = cc }

module _ {K V : Type 0} where
  -- the rows above a level, after its last node was freed
  pub above_freed : {X : Type 0} {t : Table K V} (v : Table K V) {path indices up size : _} (num : ℕ) (before : Row K X) (x : K × X) {rest : _}
      (o : LastOf (heads before)) →
      Distinct ((numbers (before ++ node num (x ∷ []) ∷ []) ++ flat_map numbers rest) ++ t.chain) → v ≡ with_freed t num →
      Above t path indices up size rest (heads (before ++ node num (x ∷ []) ∷ [])) (length (heads before)) →
      Above v path indices up size rest (o.init ++ o.last ∷ (x.0, num) ∷ []) (suc (length o.init))
  above_freed {t} v num before x {rest} o apart is p = let c = λ (m : ℕ). counts m before num (x ∷ []) [] rest t.chain in
      let none : count num (flat_map numbers rest) ≡ 0 = omega (arith, c num, count-same num []) in
      let list = heads-append before (node num (x ∷ []) ∷ []) ∙ ap (λ z. z ++ (x.0, num) ∷ []) o.is ∙ append_assoc o.init (o.last ∷ []) ((x.0, num) ∷ []) in
      let len : length (heads before) ≡ suc (length o.init) = omega (arith, ap length o.is, length-append o.init (o.last ∷ [])) in
      above_same (rw (list, len) at p) v (λ m some. freed_other _ _ _ is m (not_there m num _ some none))
      (λ m. omega (arith, c m, count-append m (flat_map numbers rest) v.chain, ap (λ z. count m z.chain) is))

  -- what the call ensures
  abbrev pub Drops : Table K V → Table K V → List ℕ → ℕ → ℕ → Rows K → Heads K → K × ℕ → Type 0
  Drops t u path up size rows a y = (levels : ℕ) × Dropped t u path size rows (a ++ y ∷ []) (loss_above (Some (suc (length a))) (map sizes rows)) (nodes_up path up levels)

  -- the level above a node that is its last, with the one before it
  module _ {t : Table K V} {path indices up size i : _} (w : LastAbove t path indices up size)
      (s : Seen t path indices up size w.rows (w.before ++ w.y ∷ []) w.x [] i) where
    open w use {rows, before as a, y, x}
    open s use {d, d.{before, l, r, after, rest}}

    abbrev num : ℕ
    num = get_or path up 0

    -- the sizes of the rows without the entry
    abbrev left : List (List ℕ)
    left = loss_above (Some (suc (length a))) (map sizes rows)

    pub ends : (r ≡ []) × (after ≡ [])
    ends = let len = length-append r (flat after) in let none = ap length d.b_is in
        (nil_from_length r (omega arith), no_nodes 4 8 (omega arith) after d.fit.2 (nil_from_length (heads after) (omega (arith, heads-flat after))))

    -- the path's row ends with the entry
    pub whole : Above t path indices up size ((before ++ node num (l ++ x ∷ []) ∷ []) ∷ rest) ((flat before ++ l) ++ x ∷ []) (length (flat before ++ l))
    whole = let e = ends in rw (e.0, e.1) at d.whole

    slot_is : slice_get t.nodes num ≡ Some (inner_content (l ++ x ∷ []))
    slot_is = rw ends.0 at d.slot_is

    lost : left ≡ (sizes before ++ (rebalanced 8 (length l) []).1) ∷ loss_above (placed (length before) (rebalanced 8 (length l) []).0) (map sizes rest)
    lost =
        let e = ends in let row = rw (e.0, e.1) at d.rows_are in
        let len : length (l ++ x ∷ []) ≡ suc (length l) = length-append l (x ∷ []) ∙ omega arith in
        sym (lost_above _ _) ∙ loss_level 8 before (length l) (length l) (suc (length a)) [] (map sizes rest) (map sizes rows)
        (cc (sizes-append _ _)) (omega arith)
        (omega (arith, ap length d.a_is, length-append (flat before) l, length-append a (y ∷ [])))

    own_is : (m : ℕ) → count m (flat_map numbers rows) ≡ count m (numbers before) + count m (num ∷ []) + count m (flat_map numbers rest)
    own_is m = omega (arith, ap (λ z. count m (flat_map numbers z)) d.rows_are, ap (λ z. count m (num ∷ numbers z)) ends.1, counts m before num (l ++ x ∷ r) after rest t.chain)

    module _ (cnt : ℕ) (value : Counts t (get_or path up i) cnt) where
      -- the node keeps other entries
      pub keeps : (u : Table K V) → cnt ≢ 1 → Removes t u (get_or path up i) (get_or indices up 0) → Drops t u path up size rows a y
      keeps u more removes = let p = whole in let old = l ++ x ∷ [] in let row = before ++ node num l ∷ [] in
          let len : length old ≡ suc (length l) = length-append l (x ∷ []) ∙ omega arith in
          let some : 1 ≤ length l = omega (arith, s.counted cnt value, ap (λ z. length (l ++ x ∷ z)) ends.0) in
          let u_is = removes (drop 1 (entry_keys (l ++ x ∷ r))) (entry_items (l ++ x ∷ r)) s.slot_is in
          let put = puts _ _ _ _ _ slot_is (cc (removed_last V l x some, ends.0, s.num_is, d.entry_is)) in
          let high : up + length rest ≡ size - 1 = omega (arith, p.height) in
          let first = some_first l some in let hs = heads-put before num old l [] (simp first.2) in (
            0,
            record {
              rows' = row ∷ rest;
              stacked = (cc (flat-append _ _, append-nil _, d.a_is), FitRow-join 4 8 before (node num l) [] d.solid (some, omega (arith, d.most_is), tt), rw (← hs) p.stacked.2);
              inside = (row-put inner_content before old l [] whole.inside.0 put (rw ends.1 at d.none), rows-same _ _ _ (λ m some. put.others m (not_there m num (flat_map numbers rest) some d.none_rest)) p.inside.1);
              height = cc (d.rows_are);
              sizes_are = cc (sizes-append _ _, lost, rebalanced_last 8 (length l) some);
              root_is = ap (λ z. root_above z rest) (sym hs) ∙ top_rows _ _ _ _ _ _ _ p.stacked p.stands ∙ ap (λ z. get_or path z 0) high;
              frees = trades-wider _ _ (λ m. omega (arith, own_is m, counts m before num l [] rest u.chain)) put.frees;
            },
          )

      -- the node has no other entry: it was freed, and its own entry is removed above
      module _ (one : cnt ≡ 1) (v : Table K V) (freed : v ≡ with_freed t (get_or path up i)) where
        pub v_is : v ≡ with_freed t num
        v_is = cc (s.num_is)

        pub l_none : l ≡ []
        l_none = nil_from_length l (omega (arith, s.counted cnt value))

        a_front : flat before ≡ a ++ y ∷ []
        a_front = cc (append-nil _, l_none, d.a_is)

        pub front : LastOf (heads before)
        front = last_of _ (some_heads before (omega (arith, ap length a_front, length-append a (y ∷ []))))

        abbrev pub last_asks : LastAbove v path indices (up + 1) size
        last_asks = record { rows = rest; before = front.init; y = front.last; x = (x.0, num); above = rw add-one (above_freed v num before x front (rw l_none at whole.apart) v_is (rw (l_none, ends.0, ends.1) at (rows_above d))) }

        -- what the call one level up ensures is what this one has to
        module _ (u : Table K V) (drops : (w : LastAbove v path indices (up + 1) size) → Drops v u path (up + 1) size w.rows w.before w.y) where
          said : Drops v u path (up + 1) size rest front.init front.last
          said = drops last_asks

          pub empties : Drops t u path up size rows a y
          empties = let below = said.1 in let hs = front.is in let p = whole in
              let len : length before ≡ suc (length front.init) =
              omega (arith, Solid-full 4 8 (omega arith) before d.solid, ap length hs, length-append front.init (front.last ∷ [])) in
              let in_v = row-same _ _ _ _ (λ m some. freed_other _ _ _ v_is m (not_there m num (numbers before) some (omega arith)))
              (row-split _ _ _ _ whole.inside.0).0 in let c = λ (m : ℕ). counts m before num (l ++ x ∷ []) [] rest t.chain in (
                suc said.0,
                record {
                  rows' = before ∷ below.rows';
                  stacked = (a_front, fit_solid 4 8 (omega arith) _ d.solid, rw hs below.stacked);
                  inside = (row-same _ _ _ _ (λ m some. below.frees.others m (omega (arith, p.apart m, c m))) in_v, below.inside);
                  height = cc (d.rows_are, below.height);
                  sizes_are = simp (below.sizes_are, len, append-nil, lost, l_none);
                  root_is = cc (below.root_is);
                  frees = rw (← add-one up) (frees-then _ _ (λ m. omega (arith, own_is m, count-append m (numbers before) (flat_map numbers below.rows')))
                      w.above.apart (frees-one _ _ _ slot_is v_is) below.frees);
                },
              )

  -- the parent of the node
  pub here : {t : Table K V} {path indices up size : _} (w : LastAbove t path indices up size) (i : ℕ) → length path ≡ 17 → size ≤ 17 →
      Seen t path indices up size w.rows (w.before ++ w.y ∷ []) w.x [] i
  here w i wide height = let len : length (w.before ++ w.y ∷ []) ≡ suc (length w.before) = length-append w.before _ ∙ omega arith in
      seen (w.before ++ w.y ∷ []) w.x [] (rw (append_assoc w.before _ _, len) w.above) (last_low w) i wide height
