-- The way down to the leaf in which a search ends: each answer of `value_below` and, as a spot, of `find_below` is one of these.
use Rattle.bforest_core.proofs.Words.{BeginsWith, without_last, ◌-◌, ◌*◌, ◌/◌, ◌+◌, SearchSpot, entry_items, entry_keys, IsSpotAt, leaf_place, length-map, ◌≡◌, ℕ, suc, ◌≤◌, ◌<◌, List, [], ◌∷◌, ◌++◌}
use Rattle.bforest_core.proofs.Words.{IsTrue, length, slice_get, Some, refl, sym, ap, ◌∙◌, arith, append-nil, Row, Rows, Content, EndsOn, Inner, IsInner}
use Rattle.bforest_core.proofs.Words.{IsIncreasing, IsTotalOrder, IsStrictlySortedBy, IsUnion, Narrows, SearchAt, SearchEndsAt, SearchThrough, Table}
use Rattle.bforest_core.proofs.{Words.{child_index, flat, is_root, leaf_content, place, tree_of, IsLeafCapacity}, union.Unions.is-rooted}
use Rattle.bforest_core.proofs.{walks.Codes.{IsBelow, code-low}, table.Stored.item_count, walks.Cousins.place-is, walks.Whole.all_through, walks.Reading.ChildRead}
use Rattle.bforest_core.proofs.{walks.Standing.under-root, walks.TopNode.{inner_under, leaf_under, node_within}, walks.Rising.increasing_rest}
use Rattle.bforest_core.proofs.walks.Descent.{Below, InnerStep, LeafStep, below, follow_asks, inner_step, leaf_found, leaf_step, leaf_value, placed}
use Rattle.bforest_core.proofs.walks.CodesDown.{child-way, rows-join, way-root, way-spot}
use Rattle.bforest_core.specs.declared.spot.Spot.{Spot}
use Rattle.std.specs.declared.cmp.Ordering.{Ordering}

module _ {K V : Type 0} {cmp : K → K → Ordering} (o : IsTotalOrder cmp) {most : ℕ} (capacity : IsLeafCapacity most) {slots : List (Content K V)}
    {leaves key number depth : _} (t : SearchThrough cmp most slots leaves key number depth) where
  -- the node is in the slots
  pub within : number < length slots
  within = node_within capacity t.on

  module _ {content : Content K V} (found : slice_get slots number ≡ Some content) where
    -- at the leaf
    module _ (other : IsInner content → ⊥) where
      pub step-leaf : LeafStep t
      step-leaf = leaf_step o capacity t (leaf_under capacity t.on found other)

      -- what a search in the leaf asks
      pub leaf-asks : (entries : List (K × V)) × (slice_get slots number ≡ Some (leaf_content entries)) × IsIncreasing cmp entries
      leaf-asks = (step-leaf.e ∷ step-leaf.es, step-leaf.slot_is, step-leaf.increasing)

      -- what a search in the leaf tells
      pub narrowed : Narrows cmp leaves key step-leaf.before (step-leaf.e ∷ step-leaf.es)
      narrowed = let s = step-leaf in let p = placed o capacity s number (place cmp (s.e ∷ s.es) key) refl refl in
          record { increasing = s.increasing; place_is = p.place_is; value_is = leaf_value o capacity s; found_is = leaf_found o capacity s; first = p.first }

    -- at an inner node
    module _ (inner : IsInner content) where
      pub step : InnerStep t
      step = inner_step o capacity t (inner_under capacity t.on found inner)

      -- what following a child asks
      pub asks : (keys : List K) × (children : _) × (slice_get slots number ≡ Some (Inner keys children)) × IsStrictlySortedBy cmp keys
      asks = follow_asks o capacity step

      -- a level more is not too many
      pub deeper-low : depth < 16
      deeper-low = omega (arith, step.count_is)

      -- the search one level down
      pub down : {index child : ℕ} → ((keys : List K) (children : _) → slice_get slots number ≡ Some (Inner keys children) → index ≡ child_index cmp keys key)
          → ChildRead slots number index child → (deeper : ℕ) → deeper ≡ suc depth → Below o capacity step index child deeper
      down says reads deeper is = below o capacity step says reads deeper (omega arith)

-- a search that has come to the node of a spot, by an order of the keys
pub record Search {K V : Type 0} (cmp : K → K → Ordering) (most : ℕ) (slots : List (Content K V)) (leaves : Row K V) (rows : Rows K) (key : K) (spot : Spot)
    (number : ℕ) : Type 0 where
  pub total : IsTotalOrder cmp
  pub capacity : IsLeafCapacity most
  pub at : SearchAt cmp most slots leaves rows key spot number
  pub open at use *

module _ {K V : Type 0} {cmp : K → K → Ordering} {most : ℕ} {slots : List (Content K V)} {leaves rows key : _} {spot : Spot} {number : ℕ}
    (w : Search cmp most slots leaves rows key spot number) where
  pub search-held : number < length slots
  search-held = within w.total w.capacity w.on

  module _ {content : Content K V} (found : slice_get slots number ≡ Some content) where
    -- where it ends
    pub search-ends : (IsInner content → ⊥) → EndsOn cmp slots leaves rows key spot number
    search-ends other = let s = step-leaf w.total w.capacity w.on found other in let at = s.at in record {
      before = at.before;
      entries = at.e ∷ at.es;
      after = at.after;
      leaves_are = at.row_is;
      slot_is = s.slot_is;
      some = omega arith;
      tells = narrowed w.total w.capacity w.on found other;
      numbers = w.numbers;
      way = rw (← (ap (λ z. z ++ w.upper) (sym s.lower_is) ∙ w.join)) (rw at.before_is w.way);
    }

    module _ (inner : IsInner content) where
      pub search-asks : (keys : List K) × (children : _) × (slice_get slots number ≡ Some (Inner keys children)) × IsStrictlySortedBy cmp keys
      search-asks = asks w.total w.capacity w.on found inner

      module _ {index : ℕ} {child : ℕ}
          (says : (keys : List K) (children : _) → slice_get slots number ≡ Some (Inner keys children) → index ≡ child_index cmp keys key)
          (reads : ChildRead slots number index child) where
        abbrev here : InnerStep w.on
        here = step w.total w.capacity w.on found inner

        abbrev to : Below w.total w.capacity here index child (suc spot.height)
        to = down w.total w.capacity w.on found inner says reads (suc spot.height) refl

        -- what the spot of the child asks
        pub search-below : (spot.code < 35184372088832) × (spot.height < 16) × (index < 8)
        search-below = let low = deeper-low w.total w.capacity w.on found inner in (
          code-low 15 w.upper w.numbers spot.code _ w.way.coded (omega (arith, w.way.height_is)),
          low,
          omega (arith, to.within, here.room),
        )

        -- what the call requires that tells whether another search goes to that child too
        pub search-along : (keys : List K) × (children : List ℕ) × (slice_get slots number ≡ Some (Inner keys children)) × IsStrictlySortedBy cmp keys
            × (length children ≡ suc (length keys)) × (index ≤ length keys)
        search-along = let a = search-asks in let es = here.es in let count = length-map es (λ w. w.0) in
            (entry_keys es, entry_items (here.e ∷ es), here.slot_is, increasing_rest w.total here.e es here.increasing, omega (arith, item_count (here.e ∷ es)), omega (arith, to.within))

        -- the search one level down
        pub search-on : {next : Spot} → IsBelow spot number index next → Search cmp most slots leaves rows key next child
        search-on {next} b = let d = down w.total w.capacity w.on found inner says reads next.height b.height in let s = here.here in record {
          total = w.total;
          capacity = w.capacity;
          at = record {
            on = d.on;
            upper = s.row ∷ w.upper;
            numbers = number ∷ w.numbers;
            way = child-way s d.within b w.way d.place_is;
            join = ap (λ z. z ++ (s.row ∷ w.upper)) d.rows_are ∙ rows-join s w.upper ∙ w.join;
          };
        }

-- the search at the root
abbrev pub search-root : {K V : Type 0} {cmp : K → K → Ordering} {most : ℕ} {table : Table K V} {root key : _}
    (union : IsUnion most table) (is : IsTrue (is_root table.nodes root)) → IsIncreasing cmp (flat (tree_of table.nodes root).leaves)
    → (depth : ℕ) → depth ≡ 0 → SearchThrough cmp most table.nodes (tree_of table.nodes root).leaves key root depth
search-root {root} union is increasing depth none =
    record { on = under-root root union is; increasing = increasing; through = all_through _ _ _; low = omega (arith, (is-rooted root union is).low) }

-- the way of a spot begins with itself, and with what the way of the spot above begins with
pub begins-here : (spot : Spot) → BeginsWith spot spot
begins-here spot = let none : spot.height - spot.height ≡ 0 = omega arith in (omega arith, ap (λ n. without_last n spot.code) none)

module _ (start above : Spot) (w : BeginsWith start above) where
  pub begins-below : {index : ℕ} (next : Spot) → next.code ≡ above.code * 8 + index → next.height ≡ suc above.height → index < 8 → BeginsWith start next
  begins-below {index} next code height low =
      let more : next.height - start.height ≡ suc (above.height - start.height) = omega (arith, height, w.0) in
      let digit : next.code / 8 ≡ above.code = omega (arith, code, low) in
      (omega (arith, height, w.0), ap (λ n. without_last n next.code) more ∙ ap (without_last (above.height - start.height)) digit ∙ w.1)

  -- ways to one leaf below a node begin with one child of it
  pub one-child : (other last : Spot) → BeginsWith other last → (code : ℕ) {i j : ℕ} → start.code ≡ code * 8 + i → other.code ≡ code * 8 + j
      → start.height ≡ other.height → above.height ≡ last.height → above.code ≡ last.code → i ≡ j
  one-child other last v code here there starts ends same = let left : above.height - start.height ≡ last.height - other.height = omega (arith, starts, ends) in
      let alike : start.code ≡ other.code = sym w.1 ∙ (λ j. without_last (left j) (same j)) ∙ v.1 in omega (arith, here, there, alike)

-- whatever lies about a node, a search through it goes on through this node below it, with the way there
abbrev pub GoesOn : {K V : Type 0} → (K → K → Ordering) → ℕ → List (Content K V) → K → Spot → ℕ → Spot → ℕ → Type 0
GoesOn {K} {V} cmp most slots key spot number next child = (leaves : Row K V) (rows : Rows K) → SearchAt cmp most slots leaves rows key spot number
    → Search cmp most slots leaves rows key next child

-- a search from the root on has come to this node, and its spot
abbrev pub CameTo : {K V : Type 0} → (K → K → Ordering) → ℕ → Table K V → ℕ → K → Spot → ℕ → Type 0
CameTo cmp most table root key spot number = Search cmp most table.nodes (tree_of table.nodes root).leaves (tree_of table.nodes root).above key spot number

abbrev pub search-first : {K V : Type 0} {cmp : K → K → Ordering} {most : ℕ} {table : Table K V} {root key : _}
    (union : IsUnion most table) (is : IsTrue (is_root table.nodes root)) → IsIncreasing cmp (flat (tree_of table.nodes root).leaves)
    → {spot : Spot} → spot.code ≡ 0 → spot.height ≡ 0 → SearchAt cmp most table.nodes (tree_of table.nodes root).leaves (tree_of table.nodes root).above key spot root
search-first {table} {root} union is increasing {spot} code height = record {
  on = search-root union is increasing _ height;
  upper = [];
  numbers = [];
  way = way-root spot code height;
  join = append-nil (tree_of table.nodes root).above;
}

pub came-first : {K V : Type 0} {cmp : K → K → Ordering} → IsTotalOrder cmp → {most : ℕ} {table : Table K V} {root key : _} (union : IsUnion most table)
    (is : IsTrue (is_root table.nodes root)) → IsIncreasing cmp (flat (tree_of table.nodes root).leaves)
    → {spot : Spot} → spot.code ≡ 0 → spot.height ≡ 0 → CameTo cmp most table root key spot root
came-first o union is increasing code height = record { total = o; capacity = union.1.capacity; at = search-first union is increasing code height }

-- from the root down: the leaf in which a search ends, and its spot
module _ {K V : Type 0} {cmp : K → K → Ordering} {table : Table K V} {root : ℕ} (is : IsTrue (is_root table.nodes root)) {key : K} {spot : Spot} {number : ℕ}
    (e : EndsOn cmp table.nodes (tree_of table.nodes root).leaves (tree_of table.nodes root).above key spot number) where
  on-spot : IsSpotAt table root spot (length e.before)
  on-spot = way-spot _ _ is e.way

  pub spot-found : IsSpotAt table root spot (leaf_place table root spot)
  spot-found = rw (place-is on-spot) on-spot

  pub search-leaf : SearchEndsAt cmp table root key (leaf_place table root spot) number
  search-leaf = record {
    leaf = record { before = e.before; entries = e.entries; after = e.after; leaves_are = e.leaves_are; at = sym (place-is on-spot); slot_is = e.slot_is; some = e.some };
    tells = e.tells;
  }

  pub search-at : SearchSpot cmp table root key spot number
  search-at = record { spot_at = spot-found; search = search-leaf }

-- where a search from the root down ends, without its spot
pub ends-here : {K V : Type 0} {cmp : K → K → Ordering} (o : IsTotalOrder cmp) {most : ℕ} (capacity : IsLeafCapacity most) {table : Table K V} {root key number depth : _}
    (t : SearchThrough cmp most table.nodes (tree_of table.nodes root).leaves key number depth) {content : Content K V} (found : slice_get table.nodes number ≡ Some content)
    (other : IsInner content → ⊥) → SearchEndsAt cmp table root key (length (step-leaf o capacity t found other).at.before) number
ends-here o capacity t found other = let s = step-leaf o capacity t found other in let at = s.at in record {
  leaf = record { before = at.before; entries = at.e ∷ at.es; after = at.after; leaves_are = at.row_is; at = refl; slot_is = s.slot_is; some = omega arith };
  tells = narrowed o capacity t found other;
}
