-- Inserting a child into the path's inner node, or splitting the node and inserting it into one half, and a new root.
use Rattle.bforest_core.proofs.Words.{◌≡◌, ℕ, suc, ◌+◌, ◌-◌, ◌≤◌, ◌<◌, if◌then◌else◌, Bool, true, List, [], ◌∷◌, ◌++◌, length, refl, sym, ap, ◌∙◌}
use Rattle.bforest_core.proofs.Words.{append_assoc, length-append, arith, Row, node, flat, heads, sizes, Table, map, get_or, IsFullAt, inner_gain, need_above}
use Rattle.bforest_core.proofs.Words.{GrownBy, HalvedBy, OneAbove, PutsChild, Heads, Rows, Above, Grown, Raised, Inner, inner_content, set, get_or-set_same}
use Rattle.bforest_core.proofs.{Words.{get_or-set_other, Some, gain_above, count}, rows.Zipper.{Spot, spot}, table.Tables.count-same}
use Rattle.bforest_core.proofs.{insertion.Level.next_takes, insertion.Grow.{Moves, gain_full, gain_room, inner_kind, need_some, step_is, step_most}}
use Rattle.bforest_core.proofs.{insertion.Nodes.{Inserting, full_is, put_raises}, removal.Lifted.{head-other, heads-put, place_at, rows_above}}
use Rattle.bforest_core.proofs.{rows.LevelRows.{Solid-full, sizes-append}, table.Trading.{Takes, takes, trades-apart}}

-- a split of the root takes a node for the new root too
pub need_top : {K : Type 0} (p : ℕ) (rows : Rows K) → length rows ≡ 0 → need_above (Some p) (map sizes rows) ≡ 2
need_top p [] none = refl
need_top p (row ∷ rows) none = absurd (omega arith)

module _ {K V : Type 0} where
  -- a level above the leaves with the rows above it
  pub grown : {t v : Table K V} {ms js ms' js' up size size' rows row rest hs q list p taken : _} (was : ℕ) → Above t ms js up size rows hs q →
      rows ≡ row ∷ rest →
      Raised inner_content 4 8 t v ms js ms' js' up size size' row rest list p (gain_above (Some was) (map sizes (row ∷ rest))) taken →
      Grown t v ms js ms' js' up size size' rows list p (gain_above (Some was) (map sizes rows)) taken
  grown was ab is g = rw is (record {
    rows' = g.row' ∷ g.rows';
    above = record {
      over = record { stacked = (g.flat_is, g.fit, g.above.stacked); inside = (g.inside, g.above.inside); stands = (g.at, g.above.stands); height = omega (arith, g.above.height) };
      apart = trades-apart g.draws (rw is at ab.apart);
    };
    topped = λ old le top. (omega (arith, top.0), g.topped top.1);
    sizes_are = g.sizes_are;
    draws = g.draws;
    climbs = g.climbs;
  })

  -- splitting the root adds a new root
  pub settle_root : {t u : Table K V} {ms js : List ℕ} {size root : ℕ} (index : ℕ) (rows : Rows K) (a : Heads K) (x : K × ℕ) (b : Heads K) (y : K × ℕ)
      (moved : Bool) →
      Above t ms js size size rows (a ++ x ∷ b) (length a) → Takes t u root (Inner (y.0 ∷ []) (x.1 ∷ y.1 ∷ [])) → size < length ms → size < length js →
      index ≡ (if moved then 1 else 0) →
      (taken : List ℕ) × ((suc (length taken) ≡ need_above (Some (length a)) (map sizes rows))
      × Grown t u ms js (set ms size root) (set js size index) size size (size + 1) rows (a ++ x ∷ y ∷ b) (if moved then suc (length a) else length a)
      (gain_above (Some (length a)) (map sizes rows)) taken)
  settle_root index (row ∷ rows) a x b y moved p w low_m low_j is = absurd (omega arith)
  settle_root index [] (z ∷ a) x b y moved p w low_m low_j is = absurd (omega arith)
  settle_root index [] [] x (z ∷ b) y moved p w low_m low_j is = absurd (omega arith)
  settle_root {ms = ms} {js} {size} {root} index [] [] x [] y moved p w low_m low_j is =
      let m_is = get_or-set_same ms size root 0 low_m in let j_is = get_or-set_same js size index 0 low_j in (
        root ∷ [],
        (
          refl,
          record {
            rows' = (node root (x ∷ y ∷ []) ∷ []) ∷ [];
            above = record {
              over = record {
                stacked = (refl, (omega arith, omega arith, tt), refl);
                inside = ((w.here, tt), tt);
                stands = (record { before = []; entries = x ∷ y ∷ []; after = []; row_is = rw m_is refl; within = omega (arith, j_is, is, step_is moved 0, step_most moved); place_is = omega (arith, j_is, is) }, refl);
                height = omega arith;
              };
              apart = λ m. omega (arith, p.apart m, ap (λ z. count m z) w.chain_is);
            };
            topped = λ old le top. (omega arith, tt);
            sizes_are = refl;
            draws = w.draws;
            climbs = record {
              nodes_below = λ i low. get_or-set_other ms size i root 0 (λ e. omega arith);
              entries_below = λ i low. get_or-set_other js size i index 0 (λ e. omega arith);
              same_top = λ same. absurd (omega arith);
              new_top = λ other. (let top : size + 1 - 1 ≡ size = omega arith in rw (top, m_is) (omega (arith, count-same root [])));
            };
          },
        ),
      )

module _ {K V : Type 0} {t : Table K V} {ms js up size : _} (w : OneAbove t ms js up size) (within : up < size) (cap : ℕ) where
  open w use {rows, before as a, x, after as b, above as p}

  pub d : Spot t ms js up size rows a x b
  d = spot a x b p within

  open d use {before, l, r, after, rest, whole}

  abbrev n : ℕ
  n = get_or ms up 0

  abbrev e : ℕ
  e = get_or js up 0

  abbrev row : Row K ℕ
  row = before ++ node n (l ++ x ∷ r) ∷ after

  -- the node where the child is inserted
  pub site : (y : K × ℕ) → Inserting (inner_kind cap) t ms js up size row rest (a ++ x ∷ y ∷ b) (length a) (inner_gain (length a) (sizes row)) y
  site y = let es = l ++ x ∷ r in let hs = heads-put before n es (l ++ x ∷ y ∷ r) after (head-other n l x.0 x.1 x.1 r (y ∷ r)) in
      let row_is = sizes-append before (node n es ∷ after) in let flat_is = length-append (flat before) l in
      let low : length l < length es = omega (arith, length-append l (x ∷ r)) in
      record {
        before = before;
        es = es;
        l = l ++ x ∷ [];
        r = r;
        after = after;
        rest = rest;
        es_is = sym (append_assoc l (x ∷ []) r);
        index_is = omega (arith, length-append l (x ∷ []), d.entry_is);
        place_is = place_at d;
        room_gain = λ room. cc (d.a_is, gain_room before (length es) (length l) (sizes after) low room);
        full_gain = λ all. cc (d.a_is, d.entry_is, Solid-full 4 8 (omega arith) before d.solid, gain_full before (length es) (length l) (sizes after) low all);
        grow = rw (append_assoc l (x ∷ []) (y ∷ r)) (record {
          half_some = omega arith;
          row_is = refl;
          list_is = cc (append_assoc l (x ∷ y ∷ r) (flat after), append_assoc (flat before) l (x ∷ y ∷ r ++ flat after), d.a_is, d.b_is);
          inside = d.inside;
          fit = whole.stacked.1;
          apart = whole.apart;
          above = rw hs at (rows_above d);
          topped = λ top. rw hs at top;
          sizes_above = refl;
          numbers_above = λ m. refl;
        });
      }

  -- the level needs one node more than those above it
  pub needs_one : need_above (Some (length a)) (map sizes rows) ≡ suc (need_above (inner_gain (length a) (sizes row)).0 (map sizes rest))
  needs_one = ap (λ z. need_above (Some (length a)) (map sizes z)) d.rows_are

  -- a successful insertion needs one node in all and leaves the rows grown
  pub put_grows : (i : ℕ) → up < length ms → {u : Table K V} {key : K} {child : ℕ} {put : Bool} → PutsChild t u (get_or ms up i) e key child put → put ≡ true →
      {js' : List ℕ} (moved : Bool) →
      Moves js js' up 1 e (length a) (if moved then suc (length a) else length a) → GrownBy w (key, child) moved u ms js' size []
  put_grows i low {key = key} {child} said done moved m = let g = put_raises (site (key, child)) i low said done m in
      (sym (needs_one ∙ ap (λ z. suc (need_above z (map sizes rest))) g.0), grown (length a) p d.rows_are g.1)

module _ {K V : Type 0} where
  -- a node is free for the split of a full node
  pub room_then : (cap : ℕ) {t : Table K V} {ms js : List ℕ} {up size : ℕ} (w : OneAbove t ms js up size) (within : up < size) → up < length ms →
      IsFullAt cap t.nodes (get_or ms up 0) → need_above (Some (length w.before)) (map sizes w.rows) ≤ suc (length t.chain) → 0 < length t.chain
  room_then cap {t} {ms} {up} w within low full enough = let s = site w within cap w.x in let rest = (d w within cap).rest in
      let gain = ap (λ z. need_above z.0 (map sizes rest)) (s.full_gain (full_is s 0 low t full)) in
      omega (arith, need_some (length (heads s.before)) (map sizes rest), needs_one w within cap)

  -- the node was split: what the call one level up ensures is what this one has to
  pub node_takes : {t t2 t3 : Table K V} {ms js ms2 js2 ms3 js3 : List ℕ} {up size size2 size3 : ℕ} (w : OneAbove t ms js up size) (child : K × ℕ)
      (moved : Bool) {key2 : K} {right left : ℕ} {moved2 : Bool} → HalvedBy w child moved t2 ms2 js2 key2 right moved2 → size2 ≡ size → left ≡ get_or ms up 0 →
      ((v : OneAbove t2 ms2 js2 (up + 1) size2) → v.x.1 ≡ left → (taken : List ℕ) × GrownBy v (key2, right) moved2 t3 ms3 js3 size3 taken) →
      (taken : List ℕ) × GrownBy w child moved t3 ms3 js3 size3 taken
  node_takes w child moved h size2_is here takes = let g = next_takes h.3 _ size2_is _ here takes in
      (g.0, (ap suc g.1 ∙ sym (ap (λ z. need_above (Some (length w.before)) (map sizes z)) h.2), grown (length w.before) w.above h.2 g.2))
