-- Moving a path's node to the next or the previous one of its level, once the node above it is there.
use Rattle.bforest_core.proofs.Words.{◌≡◌, ◌≢◌, ℕ, suc, ◌+◌, ◌-◌, ◌≤◌, ◌<◌, List, ◌∷◌, length, get_or, slice_get, Some, refl, ap, ◌∙◌, arith, Content, flat}
use Rattle.bforest_core.proofs.Words.{heads, inner_content, entry_items, SameBelow, StandsAbove, Advances, LastAt, MoreAt, OnOver, Over, Moved, Retreats}
use Rattle.bforest_core.proofs.{table.Stored.{some_same, item_count}, walks.TopNode.{SameBut, none_flat}, walks.Reading.{LastAsked, LastRead}}
use Rattle.bforest_core.proofs.{walks.LeafSearch.items-read, rows.Zipper.{stands-same, OnRow, on_row}, walks.Downward.at_node}
use Rattle.bforest_core.proofs.{walks.RowNodes.{entry_at, node-in, none-behind, seam}, walks.Steps.{Within, last_asks, last_is, read, there}}

module _ {K V : Type 0} where
  -- what going to a child requires
  abbrev pub ChildAt : List (Content K V) → List ℕ → ℕ → ℕ → Type 0
  ChildAt slots path level index =
      (level ≤ 15) × ((index ≤ 255) × ((entries : _) × (slice_get slots (get_or path (suc level) 0) ≡ Some (inner_content entries)) × (index < length entries)))

  -- the child to which the path goes is the entry's
  abbrev pub Reads : List (Content K V) → List ℕ → List ℕ → ℕ → ℕ → Type 0
  Reads slots path path' level index = (entries : _) → slice_get slots (get_or path (suc level) 0) ≡ Some (inner_content entries)
      → slice_get (entry_items entries) index ≡ Some (get_or path' level 0)

  -- the path went from the node above to its child at an index
  pub record Went (slots : List (Content K V)) (path indices : List ℕ) (level index : ℕ) (path' indices' : List ℕ) : Type 0 where
    pub child : Reads slots path path' level index
    pub nodes : SameBut level path path'
    pub entry : get_or indices' (suc level) 0 ≡ index
    pub entries : SameBut (suc level) indices indices'

  pub went : {slots : List (Content K V)} {path indices path' indices' level index : _} → Reads slots path path' level index → SameBut level path path' → get_or
      indices' (suc level) 0 ≡ index → SameBut (suc level) indices indices' → Went slots path indices level index path' indices'
  went child nodes entry entries = record { child = child; nodes = nodes; entry = entry; entries = entries }

  module _ {slots : List (Content K V)} {path indices : _} {level up : ℕ} {size rows list place : _}
      (p : Over slots path indices (suc level) size rows list place) (up_is : up ≡ suc level) (other : up ≢ size) (height : size ≤ 17) where
    pub here : OnRow slots path indices up size rows list place
    here = on_row (rw up_is p) other

    abbrev stay : Within inner_content slots 8 path indices up here.row here.rest (length here.before)
    stay = record { node = node-in _ _ 8 4 (omega arith) _ here.fit here.inside _ _ _ _ _ here.row_is refl; stands = here.over.stands }

    -- the node meets what the test for a child requires
    pub has_asks : (up ≤ 16) × ((entries : _) × (slice_get slots (get_or path up 0) ≡ Some (inner_content entries)))
    has_asks = (omega arith, (here.entries, here.slot_is))

    -- the index is less than 8
    pub index_low : get_or indices up 0 < 8
    index_low = omega (arith, here.within, here.most_is)

    -- a child of the node on which the path is after the step above, at this place of the level
    pub record Turn (path1 indices1 : List ℕ) (index to : ℕ) : Type 0 where
      pub at : ℕ
      pub on : Within inner_content slots 8 path1 indices1 up here.row here.rest at
      pub nodes_below : SameBelow up path path1
      pub entries_below : SameBelow (suc up) indices indices1
      pub low : index < length on.entries
      pub to_is : to ≡ length (flat on.before) + index

    module _ {path1 indices1 index to : _} (t : Turn path1 indices1 index to) where
      slot_below : slice_get slots (get_or path1 (suc level) 0) ≡ Some (inner_content t.on.entries)
      slot_below = cc

      -- the node meets what going to that child requires
      pub turn_asks : ChildAt slots path1 level index
      turn_asks = (omega arith, (omega arith, (t.on.entries, slot_below, t.low)))

      -- the path that went there is at the place
      pub turn_moves : {path' indices' : _} → Went slots path1 indices1 level index path' indices' → Moved path indices path' indices' level rows list to
      turn_moves {path'} {indices'} g = let w = t.on in let e = read _ _ t.low in
          let above = stands-same _ _ _ _ _ _ _ (λ i high. g.nodes i (λ e. omega arith)) (λ i high. g.entries i (λ e. omega arith)) w.stands in
          let at = at_node _ _ _ w.row_is (g.nodes up (λ e. omega arith)) (cc) t.low t.to_is in
          let stands : StandsAbove path' indices' up (here.row ∷ here.rest) to = (at, rw w.at above) in record {
            head = e.0;
            head_is = cc (here.flat_is, entry_at w.before (get_or path1 up 0) w.entries w.after index w.row_is e.1);
            node_is = some_same (cc (g.child w.entries slot_below, items-read _ _));
            stands = rw (← up_is) (rw here.rows_are stands);
            nodes_below = λ i low. g.nodes i (λ e. omega arith) ∙ t.nodes_below i (omega arith);
            entries_below = λ i low. g.entries i (λ e. omega arith) ∙ t.entries_below i (omega arith);
          }

    -- the previous child
    pub before_turn : 0 < get_or indices up 0 → (0 < place) × Turn path indices (get_or indices up 0 - 1) (place - 1)
    before_turn some = (
      omega (arith, here.place_is),
      record {
        at = length here.before;
        on = stay;
        nodes_below = λ i low. refl;
        entries_below = λ i low. refl;
        low = omega (arith, here.within);
        to_is = omega (arith, some, here.place_is);
      },
    )

    -- the next child
    pub next_turn : MoreAt slots path indices up → Turn path indices (get_or indices up 0 + 1) (suc place)
    next_turn more = record {
      at = length here.before;
      on = stay;
      nodes_below = λ i low. refl;
      entries_below = λ i low. refl;
      low = more here.entries here.slot_is;
      to_is = omega (arith, here.place_is);
    }

    -- the first child of the first node is the first of the level
    pub first_moves : OnOver slots path indices (suc up) size (λ rows list place. place ≡ 0) → get_or indices up 0 ≤ 0 → place ≡ 0
    first_moves first none = omega (arith, here.place_is, none_flat _ (first here.rest (heads here.row) (length here.before) here.over))

    -- the last child of the last node is the last of the level
    pub last_moves : LastAt slots path indices up → OnOver slots path indices (suc up) size (λ rows list place. suc place ≡ length list)
        → suc place ≡ length list
    last_moves past last = omega (
      arith,
      here.place_is,
      here.within,
      past here.entries here.slot_is,
      ap length here.flat_is,
      none-behind stay.node 4 (omega arith) here.fit (last here.rest (heads here.row) (length here.before) here.over),
    )

    -- the first child of the next node
    pub first_turn : {path1 indices1 : _} → LastAt slots path indices up → Advances slots path indices path1 indices1 up size
        → Turn path1 indices1 0 (suc place)
    first_turn past goes = let m = goes here.rest (heads here.row) (length here.before) here.over in
        let on = there inner_content slots 8 4 (omega arith) here.row here.fit here.inside m in record {
          at = suc (length here.before);
          on = on;
          nodes_below = m.nodes_below;
          entries_below = m.entries_below;
          low = on.some;
          to_is = omega (arith, here.place_is, here.within, past here.entries here.slot_is, seam stay.node on.node refl);
        }

    -- the last child of the previous node
    module _ {path1 indices1 : _} (backs : Retreats slots path indices path1 indices1 up size) (r : ℕ) (wide : 17 ≤ length path1) where
      abbrev back : (0 < length here.before) × Moved path indices path1 indices1 up here.rest (heads here.row) (length here.before - 1)
      back = backs here.rest (heads here.row) (length here.before) here.over

      back_node : Within inner_content slots 8 path1 indices1 up here.row here.rest (length here.before - 1)
      back_node = there inner_content slots 8 4 (omega arith) here.row here.fit here.inside back.1

      -- the node meets what reading its last index requires
      pub back_asks : LastAsked slots (get_or path1 up r)
      back_asks = last_asks back_node item_count r (omega arith)

      pub last_turn : get_or indices up 0 ≤ 0 → {last : ℕ} → LastRead slots (get_or path1 up r) last → (0 < place) × Turn path1 indices1 last (place - 1)
      last_turn none says = let last = last_is back_node item_count r (omega arith) says in
          let seam_is = seam back_node.node stay.node (omega (arith, back.0)) in (
            omega (arith, here.place_is),
            record {
              at = length here.before - 1;
              on = back_node;
              nodes_below = back.1.nodes_below;
              entries_below = back.1.entries_below;
              low = omega arith;
              to_is = omega (arith, here.place_is);
            },
          )
