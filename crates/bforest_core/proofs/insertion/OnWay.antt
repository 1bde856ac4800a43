-- An insertion at the leaf of a way: the answers of `insert_on`, `put_on`, `split_on` and `halve_on`.
use Rattle.bforest_core.proofs.Words.{◌≡◌, ℕ, suc, ◌-◌, ◌*◌, ◌/◌, ◌%◌, ◌^◌, ◌≤◌, ◌<◌, ◌↔◌, Bool, true, false, false≢true, List, [], ◌∷◌, ◌++◌, length, map, get_or, set}
use Rattle.bforest_core.proofs.Words.{slice_get, Some, Ok, inl, inr, refl, sym, ap, subst, ◌∙◌, arith, cases_lt, IsTrue, if◌then◌else◌, length-map, length-set}
use Rattle.bforest_core.proofs.Words.{Content, Table, IsFree, IsFullAt, IsUnion, OneAbove, Placed, PlacedIn, PlacedOn, InsertsAt, HalvedOn, Inserted, PutsChild}
use Rattle.bforest_core.proofs.Words.{Inner, Leaf, GrowsFor, entry_capacity, entry_count, inner_content, leaf_content, heads, sizes, sizes_of, need, need_above, reserved, room}
use Rattle.bforest_core.proofs.Words.{Tree, gain_above, top_of, tree_of}
use Rattle.bforest_core.proofs.Words.{IsLeafCapacity, IsSplitAt, IsUsed, PutsEntry, front_of, get_or-set_other}
use Rattle.bforest_core.proofs.{insertion.Grow.{PutAsks, goes, here, leaf_kind, need_some, step_most}, insertion.HalvingNode.{d as node-spot, need_top, needs_one, put_grows, site as node-site}}
use Rattle.bforest_core.proofs.{insertion.Insertion.{Put, full-reserved, insertion, placed-mid, placed-under, put-here}, insertion.Level.rise}
use Rattle.bforest_core.proofs.{insertion.LeafSpot.{leaf_spot, one_entry, put_inserts, site}, insertion.Nodes.{early_asks, early_halves, full_asks, full_is, late_asks, late_halves, late_within, left_count, over, put_asks, put_full, room_needs}}
use Rattle.bforest_core.proofs.{table.Allocating.reserved-free, table.Stored.some_same, walks.Ways.{first-rung, placed-up}}
use Rattle.bforest_nodes.specs.declared.node.SplitOff.{SplitOff}
use Rattle.bforest_core.specs.declared.path.way.Way.{Way}

-- what is said of an insertion that was made, where the root stays
inserted-at : {K V : Type 0} {most : ℕ} {t new : Table K V} {root place : ℕ} {key : K} {value : V} {path indices : List ℕ} {size : ℕ}
    → Put most t new root place (key, value) path indices size → top_of path size ≡ root → InsertsAt most t new root place key value (Ok root)
inserted-at put same = record {
  inserted = rw same at put.changes;
  account = put.takes;
  same_root = (λ is. put.same_root.0 same, λ is. refl);
  full = (λ is. absurd cc, λ short. absurd (omega (arith, put.enough)));
  memory = λ is. absurd cc;
  enough = λ free. refl;
  refused = tt;
}

module _ {K V : Type 0} {most : ℕ} {t : Table K V} {root place index : ℕ} {way : Way} (union : IsUnion most t) (w : PlacedOn t root way index place) where
  open w use {path, indices, size, follows as f}

  p : Placed most t path indices size (tree_of t.nodes root) place
  p = placed-under most t union w.placed

  module _ (key : K) (value : V) where
    wide-here : 0 < length path
    wide-here = omega (arith, f.wide)

    pub put-asks : PutAsks Leaf t way.leaf index
    put-asks = rw (← f.leaf_is, ← w.index_is) (put_asks (site p (key, value)) 0 wide-here)

    module _ {new : Table K V} {put : Bool} (said : PutsEntry most t new way.leaf index key value put) where
      said-here : PutsEntry most t new (get_or path 0 0) (get_or indices 0 0) key value put
      said-here = rw (f.leaf_is, w.index_is) said

      -- where the leaf has room, the entry is in the tree
      pub put-room : put ≡ true → InsertsAt most t new root place key value (Ok root)
      put-room done = let made = put_inserts p 0 wide-here said-here done in let whole = put-here union w.placed made.1 in
          inserted-at whole (whole.same_root.1 (ap (λ z. suc (length (gain_above z (map sizes (tree_of t.nodes root).above)))) made.0))

      -- else the leaf is full, and nothing changed
      pub put-past : put ≡ false → IsFullAt most t.nodes way.leaf × (new ≡ t)
      put-past none = rw (← f.leaf_is) (put_full (site p (key, value)) 0 wide-here said-here none)

  -- the leaf's parent, or the leaf where it has none, is in use
  pub parent-held : (content : Content K V) × (slice_get t.nodes way.parent ≡ Some content) × (¬ IsFree content)
  parent-held = elim (cases_lt 0 way.height) [
    | inl some ↦ (let r = first-rung (placed-up union w) (omega (arith, f.size_is)) in
        (inner_content r.entries, ap (slice_get t.nodes) (sym (f.parent_is some)) ∙ r.slot_is, λ free. free))
    | inr none ↦ (let d = leaf_spot p in let same = (f.alone (omega arith)).1 in
        (leaf_content (d.l ++ d.r), ap (slice_get t.nodes) (same ∙ sym f.leaf_is) ∙ d.slot_is, λ free. free))
  ]

  pub parent-used : {content : Content K V} → slice_get t.nodes way.parent ≡ Some content → ¬ IsFree content
  parent-used is = subst (λ z. ¬ IsFree z) (some_same (sym parent-held.1 ∙ is)) parent-held.2

  module _ {content : Content K V} (is : slice_get t.nodes way.parent ≡ Some content) {full : Bool}
      (says : IsTrue full ↔ (entry_count content ≡ entry_capacity most content)) (has-room : full ≡ false) (leaf-full : IsFullAt most t.nodes way.leaf) where
    -- the leaf has a parent
    parent-some : 0 < way.height
    parent-some = elim (cases_lt 0 way.height) [
      | inl some ↦ some
      | inr none ↦ (let same = (f.alone (omega arith)).1 in
          let filled = rw (ap (slice_get t.nodes) (sym same) ∙ is) at leaf-full in absurd (false≢true (sym has-room ∙ says.1 filled.1)))
    ]

    -- the insertion needs a node
    pub need-one : need most place (sizes_of (tree_of t.nodes root)) ≡ 1
    need-one = let s = site p (one_entry p) in let wide : 1 < length path = omega (arith, f.wide) in
        let o = over s 0 (omega (arith, f.wide)) in let low : 1 < size = omega (arith, f.size_is, parent-some) in
        let none = room_needs (node-site o low most o.x) 0 wide (ap (slice_get t.nodes) (f.parent_is parent-some) ∙ is) says has-room in
        let gain = s.full_gain (full_is s 0 (omega (arith, f.wide)) t (rw f.leaf_is leaf-full)) in omega (
          arith,
          ap (λ z. need_above z.0 (map sizes (tree_of t.nodes root).above)) gain,
          ap (need_above (Some (length (heads s.before)))) s.grow.sizes_above,
          none,
          needs_one o low most,
        )

-- the full leaf of a path was split, with an entry, in a tree in which that needs one node
module _ {K V : Type 0} {most : ℕ} {t u : Table K V} {path indices : List ℕ} {size : ℕ} {tree : Tree K V} {place : ℕ} {entry : K × V} {first : K} {right : ℕ}
    (h : HalvedOn most t u path indices size tree place entry first right) (one : need most place (sizes_of tree) ≡ 1) where
  open h use {path', indices', moved, halved as d}

  -- the rows above the halves
  abbrev next : OneAbove u path' indices' 1 size
  next = record { rows = d.rest; before = heads d.before; x = (d.first.0, get_or path 0 0); after = heads d.after; above = d.above }

  need-next : need_above (Some (length (heads d.before))) (map sizes d.rest) ≡ 1
  need-next = ap (λ z. need_above (Some (length (heads d.before))) z) d.sizes_above ∙ sym (ap (λ z. need_above z.0 (map sizes tree.above)) d.gain_is) ∙ one

  next-low : 1 < size
  next-low = elim (cases_lt 1 size) [
    | inl some ↦ some
    | inr none ↦ absurd (omega (arith, need-next, need_top (length (heads d.before)) d.rest (omega (arith, d.above.height))))
  ]

  module _ (wide : 1 < length path') where
    pub child-asks : PutAsks Inner u (get_or path' 1 0) (get_or indices' 1 0)
    child-asks = put_asks (node-site next next-low most (first, right)) 0 wide

    module _ {v : Table K V} {put : Bool} (said : PutsChild u v (get_or path' 1 0) (get_or indices' 1 0) first right put) where
      -- the leaf's parent has room
      put-true : (b : Bool) → put ≡ b → put ≡ true
      put-true true is = is
      put-true false is = let s = node-site next next-low most (first, right) in let rest = (node-spot next next-low most).rest in let full = (put_full s 0 wide said is).0 in absurd (omega (
        arith,
        need-next,
        needs_one next next-low most,
        ap (λ z. need_above z.0 (map sizes rest)) (s.full_gain (full_is s 0 wide u full)),
        need_some (length (heads s.before)) (map sizes rest),
      ))

      -- the entry is in the tree
      pub split-inserts : 1 < length indices' → (path2 indices2 : List ℕ) × Inserted most t v path indices path2 indices2 size size tree place entry
      split-inserts indexed = let e = get_or indices' 1 0 in let to = if moved then suc e else e in
          let g = put_grows next next-low most 0 wide said (put-true put refl) moved (goes moved (step_most moved) indexed refl) in
          (path', set indices' 1 to, record { taken = right ∷ []; taken_is = sym one; raised = rise d size refl g.1 })

-- the full leaf of a way is split for an entry
module _ {K V : Type 0} {most : ℕ} {t : Table K V} {tree : Tree K V} {place index : ℕ} {way : Way} (w : PlacedIn most t way index tree place) (entry : K × V)
    (full : IsFullAt most t.nodes way.leaf) where
  open w use {path, indices, size, follows as f, placed as its}

  wide : 0 < length path
  wide = omega (arith, f.wide)

  full-here : IsFullAt most t.nodes (get_or path 0 0)
  full-here = rw f.leaf_is full

  pub halve-asks : 0 < length t.chain → IsUsed t way.leaf × (IsFullAt most t.nodes way.leaf × (0 < length t.chain))
  halve-asks some = (rw (← f.leaf_is) (full_asks (site its entry) 0 wide t full-here some).0, (full, some))

  module _ {s : Table K V} {right : ℕ} {parts : SplitOff K} (front : front_of t.chain ≡ Some right) (right_used : IsUsed s right)
      (split : IsSplitAt most t way.leaf index parts s) (capacity : IsLeafCapacity most) where
    split-here : IsSplitAt most t (get_or path 0 0) (get_or indices 0 0) parts s
    split-here = rw (f.leaf_is, w.index_is) split

    module _ (few : index ≤ most / 2) where
      early : get_or indices 0 0 < suc (most / 2)
      early = omega (arith, few, w.index_is)

      pub early-asks : PutAsks Leaf s way.leaf index
      early-asks = rw (← f.leaf_is, ← w.index_is) (early_asks (site its entry) 0 wide s full-here front right_used split-here capacity early)

      pub early-halves : {u : Table K V} {put : Bool} → PutsEntry most s u way.leaf index entry.0 entry.1 put → HalvedOn most t u path indices size tree place entry parts.crit_key right
      early-halves {u} {put} said = let said-here : PutsEntry most s u (get_or path 0 0) (get_or indices 0 0) entry.0 entry.1 put = rw (f.leaf_is, w.index_is) said in record {
        path' = path;
        indices' = indices;
        moved = false;
        halved = early_halves (site its entry) 0 wide s full-here front right_used split-here capacity early said-here here;
        wide = refl;
        indexed = refl;
        entries_above = λ i high. refl;
      }

    module _ (more : most / 2 < index) where
      late : suc (most / 2) ≤ get_or indices 0 0
      late = omega (arith, more, w.index_is)

      pub late-within : parts.lhs_entries ≤ index
      late-within = omega (arith, late_within (site its entry) 0 wide s full-here front right_used split-here capacity late, w.index_is)

      behind-is : index - parts.lhs_entries ≡ get_or indices 0 0 - (leaf_kind {K = K} {V = V} most).left (get_or indices 0 0)
      behind-is = ap (λ z. z - parts.lhs_entries) (sym w.index_is)
          ∙ ap (λ z. get_or indices 0 0 - z) (left_count (site its entry) 0 wide s full-here front right_used split-here capacity)

      pub late-asks : PutAsks Leaf s right (index - parts.lhs_entries)
      late-asks = late_asks (site its entry) 0 wide s full-here front right_used split-here capacity late behind-is

      pub late-halves : {u : Table K V} {put : Bool} → PutsEntry most s u right (index - parts.lhs_entries) entry.0 entry.1 put → {first : K}
          → (index - parts.lhs_entries ≡ 0 → first ≡ entry.0) → (0 < index - parts.lhs_entries → first ≡ parts.crit_key)
          → HalvedOn most t u path indices size tree place entry first right
      late-halves said {first} foremost further = record {
        path' = set path 0 right;
        indices' = set indices 0 (index - parts.lhs_entries);
        moved = true;
        halved = late_halves (site its entry) 0 wide s full-here front right_used split-here capacity late first behind-is said
            (λ none. foremost (omega arith)) (λ high. further (omega arith)) (goes false (omega arith) (omega (arith, f.indexed)) refl);
        wide = length-set path 0 right;
        indexed = length-set indices 0 (index - parts.lhs_entries);
        entries_above = λ i high. get_or-set_other indices 0 i (index - parts.lhs_entries) 0 (λ e. omega arith);
      }

-- the right half is inserted behind the leaf, in its parent
module _ {K V : Type 0} {most : ℕ} {t u : Table K V} {tree : Tree K V} {place index : ℕ} {way : Way} (w : PlacedIn most t way index tree place) (one : need most place (sizes_of tree) ≡ 1)
    {entry : K × V} {first : K} {right : ℕ} (h : HalvedOn most t u w.path w.indices w.size tree place entry first right) {digit : ℕ} (digit_is : digit ≡ way.code / 2 ^ (3 * 0) % 8) where
  open w use {follows as f}

  height-some : 0 < way.height
  height-some = omega (arith, next-low h one, f.size_is)

  parent-there : get_or h.path' 1 0 ≡ way.parent
  parent-there = h.halved.nodes_above 1 (omega arith) ∙ f.parent_is height-some

  digit-there : get_or h.indices' 1 0 ≡ digit
  digit-there = h.entries_above 1 (omega arith) ∙ f.digits 0 height-some ∙ sym digit_is

  long : (1 < length h.path') × (1 < length h.indices')
  long = (omega (arith, h.wide, f.wide), omega (arith, h.indexed, f.indexed))

  pub put-child-asks : PutAsks Inner u way.parent digit
  put-child-asks = let a = child-asks h one long.0 in rw (parent-there, digit-there) at a

  pub split-done : {v : Table K V} {put : Bool} → PutsChild u v way.parent digit first right put → (path2 indices2 : List ℕ) × Inserted most t v w.path w.indices path2 indices2 w.size w.size tree place entry
  split-done {v} {put} said = let there : PutsChild u v (get_or h.path' 1 0) (get_or h.indices' 1 0) first right put = rw (parent-there, digit-there) said in
      split-inserts h one long.0 there long.1

-- one node was reserved, which the insertion takes
module _ {K V : Type 0} {most : ℕ} {t : Table K V} {root place index : ℕ} {way : Way} (union : IsUnion most t) (w : PlacedOn t root way index place)
    (one : need most place (sizes_of (tree_of t.nodes root)) ≡ 1) {mid : Table K V} (mid_is : mid ≡ reserved t 1 mid.memory) where
  open w use {path, indices, size, follows as f}

  abbrev pub placed-then : PlacedIn most mid way index (tree_of t.nodes root) place
  placed-then = record { path = path; indices = indices; size = size; follows = f; index_is = w.index_is; placed = placed-mid most t mid 1 union w.placed mid_is }

  pub full-then : IsFullAt most t.nodes way.leaf → IsFullAt most mid.nodes way.leaf
  full-then full = let d = leaf_spot (placed-under most t union w.placed) in
      rw mid_is (full-reserved most t 1 mid.memory way.leaf (leaf_content (d.l ++ d.r)) (ap (slice_get t.nodes) (sym f.leaf_is) ∙ d.slot_is) full)

  pub free-then : 0 < length mid.chain
  free-then = omega (arith, ap (λ z. length z.chain) mid_is, reserved-free t 1 mid.memory)

  pub put-near : GrowsFor 1 t mid → ¬ (room t < 1) → {new : Table K V} {key : K} {value : V}
      → (path2 indices2 : List ℕ) × Inserted most mid new path indices path2 indices2 size size (tree_of t.nodes root) place (key, value) → InsertsAt most t new root place key value (Ok root)
  put-near held enough {new} {key} {value} made =
      let tree = tree_of t.nodes root in let i = made.2 in let n_is = sym one in let mid_old = mid_is ∙ ap (λ z. reserved t z mid.memory) n_is in
      let put = insertion t root mid.memory union w.placed (omega (arith, f.size_is, f.low)) (omega (arith, enough, one))
      (subst (λ z. GrowsFor z t (reserved t z mid.memory)) n_is (rw mid_is at held)) (rw mid_old at i) in
      inserted-at put (put.same_root.1 (omega (arith, ap length i.sizes_are, length-map i.rows' sizes, length-map tree.above sizes, i.above.height, w.placed.at.points.size_is)))
