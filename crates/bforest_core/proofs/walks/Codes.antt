-- The way of a code down rows of inner nodes, and a spot as such a way.
use Rattle.bforest_core.proofs.Words.{Coded, CodedOver, HasNext, IsLeafAt, IsSpotAt, IsBesideOf, IsWay, Leads, NumberAt, Way, Bool, false, leaf_count, toward, true}
use Rattle.bforest_core.proofs.Words.{ℕ, zero, suc, ◌+◌, ◌-◌, ◌*◌, ◌/◌, ◌%◌, ◌≤◌, ◌<◌, List, [], ◌∷◌, length, drop, get_or, slice_get, Some, refl, sym, ap, ◌∙◌}
use Rattle.bforest_core.proofs.Words.{IsTrue, ◌≡◌, arith, None, Heads, Row, Rows, Content, IsAt, flat, heads, FitRow, RowIn, inner_content, IsUnion, Table, is_root, tree_of}
use Rattle.bforest_core.proofs.{walks.Reading.{CountAsked, CountRead}, rows.LevelRows.some_leaf, walks.RowNodes.{NodeIn, fit_full, node-at, node-in, node-same}}
use Rattle.bforest_core.proofs.{union.Unions.is-rooted, table.Stored.item_count}
use Rattle.bforest_core.specs.declared.spot.Spot.{Spot}

-- a power of eight
abbrev pub eights : ℕ → ℕ
eights zero = 1
eights (suc n) = 8 * eights n

eights-pos : (n : ℕ) → 1 ≤ eights n
eights-pos zero = omega arith
eights-pos (suc n) = omega (arith, eights-pos n)

digits-low : (code x : ℕ) → code / 8 < x → code < 8 * x
digits-low code x low = omega arith

-- a code has no more digits than levels
pub code-low : {K : Type 0} (n : ℕ) (rows : Rows K) (numbers : List ℕ) (code place : ℕ) → Coded numbers rows code place → length rows ≤ n → code < eights n
code-low n [] numbers code place c low = omega (arith, eights-pos n)
code-low zero (row ∷ rows) numbers code place c low = absurd (omega arith)
code-low (suc n) (row ∷ rows) numbers code place c low = digits-low _ _ (code-low n _ _ _ _ c.1 (omega arith))

-- the lowest node of a way, and the way to it
pub record Lowest {K V : Type 0} (slots : List (Content K V)) (root code depth : ℕ) (numbers : List ℕ) (rows : Rows K) (list : Heads K) (place : ℕ) : Type 0 where
  pub row : Row K ℕ
  pub rest : Rows K
  pub rows_are : rows ≡ row ∷ rest
  pub top : ℕ
  pub at : NodeIn inner_content slots 8 row (get_or numbers 0 0) top
  pub within : code % 8 < length at.entries
  pub place_is : place ≡ length (flat at.before) + code % 8
  pub fit : FitRow 4 8 row
  pub inside : RowIn inner_content slots row
  pub flat_is : flat row ≡ list
  pub over : CodedOver slots root (code / 8) depth (drop 1 numbers) rest (heads row) top

module _ {K V : Type 0} {slots : List (Content K V)} {root code depth : ℕ} where
  pub lowest : {numbers rows list place : _} → CodedOver slots root code (suc depth) numbers rows list place → Lowest slots root code depth numbers rows list place
  lowest {rows = []} p = absurd (omega arith)
  lowest {rows = row ∷ rest} p = let at = p.coded.0 in
      record {
        row = row;
        rest = rest;
        rows_are = refl;
        top = length at.before;
        at = node-in _ _ 8 4 (omega arith) _ p.stacked.1 p.inside.0 _ _ _ _ _ at.row_is refl;
        within = at.within;
        place_is = at.place_is;
        fit = p.stacked.1;
        inside = p.inside.0;
        flat_is = p.stacked.0;
        over = record { stacked = p.stacked.2; inside = p.inside.1; coded = p.coded.1; root_is = p.root_is; depth_is = omega arith };
      }

  -- with no levels, the root
  pub way-none : {numbers rows list place : _} → CodedOver slots root code depth numbers rows list place → depth ≡ 0 →
      NumberAt list place root × (suc place ≡ length list) × (place ≡ 0) × (code ≡ 0)
  way-none {rows = []} {list = []} p none = absurd (omega arith)
  way-none {rows = []} {list = x ∷ y ∷ list} p none = absurd (omega arith)
  way-none {rows = []} {list = x ∷ []} p none =
      ((x.0, ap (slice_get (x ∷ [])) p.coded.1 ∙ ap (λ z. Some (x.0, z)) p.root_is), omega arith, p.coded.1, p.coded.0)
  way-none {rows = row ∷ rest} p none = absurd (omega arith)

-- a code, with one digit more
pub digit-put : (above digit code : ℕ) → digit < 8 → code ≡ above * 8 + digit → (code % 8 ≡ digit) × (code / 8 ≡ above)
digit-put above digit code low is = (omega arith, omega arith)

-- a way, with the number of levels told otherwise
abbrev pub deeper : {K V : Type 0} {slots : List (Content K V)} {root code depth to : ℕ} → Way slots root code depth → to ≡ depth → Way slots root code to
deeper p is = record {
  numbers = p.numbers;
  rows = p.rows;
  list = p.list;
  place = p.place;
  over = record { stacked = p.stacked; inside = p.inside; coded = p.coded; root_is = p.root_is; depth_is = is ∙ p.depth_is };
}

module _ {K V : Type 0} {slots : List (Content K V)} {root code depth : ℕ} (p : Way slots root code (suc depth)) where
  abbrev pub here : Lowest slots root code depth p.numbers p.rows p.list p.place
  here = lowest p.over

  -- the way to the node above
  abbrev pub above : Way slots root (code / 8) depth
  above = record { numbers = drop 1 p.numbers; rows = here.rest; list = heads here.row; place = here.top; over = here.over }

  abbrev pub node-above : {number top : ℕ} → NumberAt (heads here.row) top number → NodeIn inner_content slots 8 here.row number top
  node-above n = node-at _ _ 8 4 (omega arith) _ here.fit here.inside _ _ n

  -- the lowest node is the one that was read
  pub read-same : (parent : ℕ) → ((w : Way slots root (code / 8) depth) → NumberAt w.list w.place parent) → get_or p.numbers 0 0 ≡ parent
  read-same parent says = sym (node-same here.at (node-above (says above)))

  -- the node with this number is the lowest of the way, which goes on to its child at an index
  pub record Parent (parent index : ℕ) : Type 0 where
    pub same : get_or p.numbers 0 0 ≡ parent
    pub digit : code % 8 ≡ index

module _ {K V : Type 0} {slots : List (Content K V)} {root code depth : ℕ} {p : Way slots root code (suc depth)} {parent index : ℕ} (d : Parent p parent index) where
  abbrev pub node-here : NodeIn inner_content slots 8 (here p).row parent (here p).top
  node-here = let a = (here p).at in record {
    before = a.before;
    entries = a.entries;
    after = a.after;
    row_is = cc (d.same);
    at = a.at;
    slot_is = cc (d.same);
    some = a.some;
    room = a.room;
  }

  -- what the number of children asks, and says
  pub count-asks : CountAsked slots parent
  count-asks = (inner_content (here p).at.entries, node-here.slot_is, tt)

  pub count-is : {count : ℕ} → CountRead slots parent count → count ≡ length (here p).at.entries
  count-is counts = counts (inner_content (here p).at.entries) node-here.slot_is ∙ item_count _

module _ {K V : Type 0} {n : ℕ} {table : Table K V} (union : IsUnion n table) (root : ℕ) (is : IsTrue (is_root table.nodes root)) where
  -- the leaf that is the node at this place of the lowest level
  pub leaf-at : {place number : ℕ} → NumberAt (heads (tree_of table.nodes root).leaves) place number → IsLeafAt table root place number
  leaf-at m = let w = is-rooted root union is in let a = node-at _ _ n _ (some_leaf union.1.capacity) _ w.fit.leaves_fit w.inside.leaves_in _ _ m in
      record { before = a.before; entries = a.entries; after = a.after; leaves_are = a.row_is; at = a.at; slot_is = a.slot_is; some = a.some }

  -- the last node of the lowest level is the last leaf
  pub last-leaf : {place : ℕ} → suc place ≡ length (heads (tree_of table.nodes root).leaves) → suc place ≡ leaf_count table root
  last-leaf last = last ∙ fit_full _ n (some_leaf union.1.capacity) _ (is-rooted root union is).fit.leaves_fit

module _ {K V : Type 0} {n : ℕ} {table : Table K V} (union : IsUnion n table) {root : ℕ} {spot : Spot} {place : ℕ} (s : IsSpotAt table root spot place) where
  -- a spot's code is a way down
  abbrev pub spot-over : Way table.nodes root spot.code spot.height
  spot-over = let w = is-rooted root union s.root_is in record {
    numbers = s.numbers;
    rows = (tree_of table.nodes root).above;
    list = heads (tree_of table.nodes root).leaves;
    place = place;
    over = record { stacked = w.fit.stacked; inside = w.inside.rows_in; coded = s.coded; root_is = w.root_is; depth_is = s.height_is };
  }

  module _ (some : 0 < spot.height) where
    -- the leaf's parent is the lowest node of the way
    abbrev pub leaf-way : Way table.nodes root spot.code (suc (spot.height - 1))
    leaf-way = deeper spot-over (omega arith)

    abbrev pub leaf-parent : Parent leaf-way spot.parent (spot.code % 8)
    leaf-parent = record { same = s.parent_is some; digit = refl }

    module _ {count : ℕ} (counts : CountRead table.nodes spot.parent count) where
      pub spot-last : count ≤ spot.code % 8 + 1 → HasNext table spot → ⊥
      spot-last high h = omega (arith, counts (inner_content h.entries) h.parent, item_count h.entries)

      pub spot-has : spot.code % 8 + 1 < count → HasNext table spot
      spot-has low = record {
        some = some;
        entries = (here leaf-way).at.entries;
        parent = (node-here leaf-parent).slot_is;
        within = omega (arith, low, count-is leaf-parent counts);
      }

  pub spot-low : spot.code < 281474976710656
  spot-low = let w = is-rooted root union s.root_is in code-low _ _ _ _ _ s.coded w.low

  pub spot-height : spot.height ≤ 16
  spot-height = let w = is-rooted root union s.root_is in omega arith

-- the spot one level below another, at a child of this node
pub record IsBelow (spot : Spot) (node index : ℕ) (next : Spot) : Type 0 where
  pub code : next.code ≡ spot.code * 8 + index
  pub parent : next.parent ≡ node
  pub grand : next.grand ≡ spot.parent
  pub height : next.height ≡ suc spot.height

module _ {K : Type 0} {row : Row K ℕ} {number index place : ℕ} (at : IsAt row number index place) (low : index < 8) where
  -- the way to a child of a node, by the way to the node
  pub coded-below : (others : List ℕ) (rest : Rows K) (over : ℕ) {code : ℕ} → Coded others rest over (length at.before) → code ≡ over * 8 + index → Coded (number ∷ others) (row ∷ rest) code place
  coded-below others rest over {code} c is = let digits = digit-put over index code low is in (
    record { before = at.before; entries = at.entries; after = at.after; row_is = at.row_is; within = omega arith; place_is = omega arith },
    rw digits.1 c,
  )

  pub way-below : {others : List ℕ} {rest : Rows K} {spot next : Spot} → IsWay others spot rest (length at.before) → IsBelow spot number index next → IsWay (number ∷ others) next (row ∷ rest) place
  way-below {others} {rest} w b = record {
    coded = coded-below others rest _ w.coded b.code;
    parent_is = λ some. sym b.parent;
    grand_is = λ some. w.parent_is (omega arith) ∙ sym b.grand;
    height_is = b.height ∙ ap suc w.height_is;
  }

module _ {K V : Type 0} {slots : List (Content K V)} {root : ℕ} (spot : Spot) (height : spot.height ≡ 0) where
  -- with no levels, the root
  pub root-leads : Leads slots root spot.code spot.height spot root
  root-leads p = (
    record { coded = p.coded; parent_is = λ low. absurd (omega arith); grand_is = λ low. absurd (omega arith); height_is = p.depth_is },
    (way-none p.over height).0,
  )

  -- nothing is beside it
  pub root-alone : (on : Bool) → IsBesideOf slots root spot.code spot.height (toward on) None
  root-alone true = record { some = tt; none = λ none p. (way-none p.over height).1 }
  root-alone false = record { some = tt; none = λ none p. (way-none p.over height).2 }
