-- The right neighbour of a node, under the same parent or another: the answers of `right_sibling`, and the move of a path there.
use Rattle.bforest_core.proofs.Words.{◌≡◌, ℕ, suc, ◌≤◌, List, [], ◌∷◌, ◌++◌, length, drop, slice_get, Some, refl, sym, ◌∙◌, append_assoc, length-append}
use Rattle.bforest_core.proofs.Words.{arith, Heads, inner_content, entry_keys, entry_items, ◌+◌, ◌<◌, Option, get_or, ap, Table, Above, KeyIs, NextIs, OneAbove}
use Rattle.bforest_core.proofs.Words.{subst, node, flat, heads, RowIn, add-one, nil_from_length, ◌≢◌, true, false, map, None, Bool, Moved}
use Rattle.bforest_core.proofs.removal.Asked.{Beside, ChildAt, Counts, ReadsChild, ReadsKey, Seen, no_nodes, seen, some_first}
use Rattle.bforest_core.proofs.{removal.Lifted.{NextNode, headed, next_of, rows_above}, table.Stored.{slice_get_at, some_same, item_count}}
use Rattle.bforest_core.proofs.{table.Tables.row-split, rows.Zipper.{Spot, stands-same}}

second : {X Y : Type 0} (f : X → Y) (l : List X) (x y : X) (r : List X) → slice_get (map f (l ++ x ∷ y ∷ r)) (suc (length l)) ≡ Some (f y)
second f [] x y r = refl
second f (z ∷ l) x y r = second f l x y r

second_key : {K : Type 0} (l : Heads K) (x y : K × ℕ) (r : Heads K) → slice_get (drop 1 (entry_keys (l ++ x ∷ y ∷ r))) (length l) ≡ Some y.0
second_key [] x y r = refl
second_key (z ∷ l) x y r = second _ l x y r

-- where there is a next node, a step moves
pub must_move : {K : Type 0} (a : Heads K) (x y : K × ℕ) (b : Heads K) (moved : Bool) → (moved ≡ false → suc (length a) ≡ length (a ++ x ∷ y ∷ b)) →
    moved ≡ true
must_move a x y b true last = refl
must_move a x y b false last = absurd (omega (arith, last refl, length-append a (x ∷ y ∷ b)))

module _ {K V : Type 0} where
  -- the rows one level up, as a call there requires them
  abbrev pub up_asks : {t : Table K V} {path indices up size rows a x b : _} → Spot t path indices up size rows a x b → OneAbove t path indices (up + 1) size
  up_asks {path = path} {up = up} {x = x} d = let h = some_first (d.l ++ x ∷ d.r) (omega arith) in
      record { rows = d.rest; before = heads d.before; x = (h.0.0, get_or path up 0); after = heads d.after; above = rw add-one (headed d.before (get_or path up 0) d.after h (rows_above d)) }

  -- the nodes behind the path's on level 1 begin with the same key as those behind it on this level
  abbrev pub KeyComes : (t : Table K V) (path indices : List ℕ) (up size : ℕ) → OneAbove t path indices 1 size → Type 0
  KeyComes t path indices up size w = (v : OneAbove t path indices up size) × ((o : Option K) → KeyIs o v.after → KeyIs o w.after)

  -- the rows after a step, with another index below them
  pub entered_next : {t : Table K V} {path indices path' indices' : _} (indices2 : _) {level size rows : _} (a x y b : _) → Above t path indices (suc level) size rows (a ++ x ∷ y ∷ b) (length a) →
      Moved path indices path' indices' level rows (a ++ x ∷ y ∷ b) (suc (length a)) → ((i : ℕ) → suc level ≤ i → get_or indices2 i 0 ≡ get_or indices' i 0) → Above t path' indices2 (suc level) size rows (a ++ x ∷ y ∷ b) (suc (length a)) × (get_or path' level 0 ≡ y.1)
  entered_next indices2 a x y b p m same = let len : length (a ++ x ∷ []) ≡ suc (length a) = length-append a _ ∙ omega arith in
      let found = ap (λ z. slice_get z (suc (length a))) (sym (append_assoc a _ _)) ∙ slice_get_at _ y b _ len in
      let head_is = some_same {x = m.head} {y = y} (cc) in (
        record { over = record { stacked = p.stacked; inside = p.inside; stands = stands-same _ _ _ _ _ _ _ (λ i high. refl) same m.stands; height = p.height }; apart = p.apart },
        cc,
      )

  module _ {t : Table K V} {path indices up size : _} (w : OneAbove t path indices up size) (other : up ≢ size) where
    pub is_low : up < size
    is_low = omega arith

    -- the parent of the node
    pub one_seen : (i : ℕ) → length path ≡ 17 → size ≤ 17 → Seen t path indices up size w.rows w.before w.x w.after i
    one_seen i wide height = seen _ w.x w.after w.above is_low i wide height

  module _ {t : Table K V} {path indices up size rows a x b i : _} (s : Seen t path indices up size rows a x b i) where
    open s use {d, d.{before, l, r, after}}

    abbrev index : ℕ
    index = get_or indices up 0

    abbrev keys : List K
    keys = drop 1 (entry_keys (l ++ x ∷ r))

    abbrev items : List ℕ
    items = entry_items (l ++ x ∷ r)

    module _ (o : Option (K × ℕ)) (next : _) (is : o ≡ Some next) (beside : Beside t path indices (up + 1) size o) where
      next_one : NextNode after next.0 next.1
      next_one = next_of 4 8 (omega arith) _ _ _ _ d.fit.2 (subst (λ z. NextIs z (heads after)) is (beside (up_asks d))).1

      n_slot : slice_get t.nodes next.1 ≡ Some (inner_content (next_one.f ∷ next_one.fs))
      n_slot = let rest = (row-split _ _ _ (node (get_or path up 0) (l ++ x ∷ r) ∷ after) d.inside).1.1 in
          (subst (λ z. RowIn inner_content t.nodes z) next_one.after_is rest).0

      -- the next parent meets what reading its first child requires
      pub first_asks : ChildAt t next.1 0
      first_asks = (drop 1 (entry_keys (next_one.f ∷ next_one.fs)), entry_items (next_one.f ∷ next_one.fs), n_slot, omega arith)

    module _ (m : ℕ) (value : Counts t (get_or path up i) m) where
      -- a neighbour under the same parent meets what reading it requires
      pub item_asks : index + 1 < m → ChildAt t (get_or path up i) (index + 1)
      item_asks more = (keys, items, s.slot_is, omega (arith, s.counted m value, item_count (l ++ x ∷ r)))

      pub beside_same : (key child : _) → index + 1 < m → ReadsKey t (get_or path up i) index key → ReadsChild t (get_or path up i) (index + 1) child →
          NextIs (Some (key, child)) b
      beside_same key child more reads_key reads_child = let w = some_first r (omega (arith, s.counted m value)) in
          let high : suc (length l) ≡ index + 1 = omega arith in
          let key_is = some_same (cc (second_key l x w.0 w.1, d.entry_is, reads_key keys items s.slot_is)) in
          let child_is = some_same (cc (second (λ z. z.1) _ x _ _, reads_child keys items s.slot_is)) in
          (w.1 ++ flat after, d.b_is ∙ ap (λ z. z ++ flat after) w.2 ∙ ap (λ z. (z, w.0.1) ∷ (w.1 ++ flat after)) key_is ∙ ap (λ z. (key, z) ∷ (w.1 ++ flat after)) child_is)

      -- the first key behind, where a neighbour has the same parent
      pub key_same : (key : K) → index + 1 < m → ReadsKey t (get_or path up i) index key → KeyIs (Some key) b
      key_same key more reads = let w = some_first r (omega (arith, s.counted m value)) in
          let key_is = some_same (cc (second_key l x w.0 w.1, d.entry_is, reads keys items s.slot_is)) in
          (w.0.1, (w.1 ++ flat after, d.b_is ∙ ap (λ z. z ++ flat after) w.2 ∙ ap (λ z. (z, w.0.1) ∷ (w.1 ++ flat after)) key_is))

      module _ (less : m ≤ index + 1) where
        behind : b ≡ flat after
        behind = cc (d.b_is, nil_from_length r (omega (arith, s.counted m value)))

        -- there is no right neighbour
        pub none_right : (o : Option (K × ℕ)) → o ≡ None → Beside t path indices (up + 1) size o → NextIs None b
        none_right o is beside = cc (behind, no_nodes 4 8 (omega arith) _ d.fit.2 (subst (λ z. NextIs z (heads after)) is (beside (up_asks d))))

        -- the first key behind is that behind the parent
        pub key_up : (o : Option K) → KeyIs o (heads after) → KeyIs o b
        key_up None is = cc (behind, no_nodes 4 8 (omega arith) _ d.fit.2 is)
        key_up (Some key) is = let n = next_of 4 8 (omega arith) _ key is.0 is.1.0 d.fit.2 is.1.1 in
            (n.f.1, (n.fs ++ flat n.rest, behind ∙ ap (λ z. flat z) n.after_is ∙ ap (λ z. (z, n.f.1) ∷ (n.fs ++ flat n.rest)) (sym n.k_is)))

        -- the right neighbour has another parent
        pub beside_next : (o : Option (K × ℕ)) (next : _) (is : o ≡ Some next) (beside : Beside t path indices (up + 1) size o) (child : ℕ) →
            ReadsChild t next.1 0 child → NextIs (Some (next.0, child)) b
        beside_next o next is beside child reads = let w = next_one o next is beside in
            let child_is = some_same (reads (drop 1 (entry_keys (w.f ∷ w.fs))) (entry_items (w.f ∷ w.fs)) (n_slot o next is beside)) in
            (w.fs ++ flat w.rest, behind ∙ ap (λ z. flat z) w.after_is ∙ ap (λ z. (z, w.f.1) ∷ (w.fs ++ flat w.rest)) (sym w.k_is) ∙ ap (λ z. (next.0, z) ∷ (w.fs ++ flat w.rest)) child_is)
