-- The way down to the first leaf below a node, and to the last, as a spot: each answer of `end_below` is one of these.
use Rattle.bforest_core.proofs.Words.{HasUnder, IsLeafAt, IsSpotAt, IsWay, NodeOver, NumberAt, OnUnder, Sided, leaf_count, ◌≡◌, ℕ, suc, ◌+◌, ◌-◌, ◌≤◌, ◌<◌}
use Rattle.bforest_core.proofs.Words.{List, [], ◌∷◌, ◌++◌, IsTrue, length, slice_get, Some, refl, sym, ap, ◌∙◌, arith, append_assoc, Heads, Row}
use Rattle.bforest_core.proofs.Words.{Rows, Content, IsInner, IsLeafCapacity, IsUnion, Bool, true, false, nearest, flat, heads, IsNearest, append-nil, Table, is_root}
use Rattle.bforest_core.proofs.{Words.tree_of, walks.Standing.under-root, union.Unions.is-rooted}
use Rattle.bforest_core.proofs.walks.TopNode.{InnerUnder, LeafUnder, inner_under, leaf_under, node_held, head_at}
use Rattle.bforest_core.proofs.{table.Stored.{item_count, slice_get_at}, walks.Leading.{Turns, child_under, last-place}, walks.Codes.{IsBelow, code-low, leaf-at, way-below}}
use Rattle.bforest_core.proofs.walks.Reading.{ChildAsked, ChildRead, LastAsked}
use Rattle.bforest_core.specs.declared.spot.Spot.{Spot}

module _ {K V : Type 0} {most : _} {slots : List (Content K V)} {leaves : Row K V} {number : ℕ} {n : NodeOver most slots leaves number} (s : InnerUnder n) where
  -- the rows under a node and its own are the rows below it
  pub rows-join : (upper : Rows K) → s.rows ++ (s.row ∷ upper) ≡ n.lower ++ upper
  rows-join upper = cc (append_assoc s.rows (s.row ∷ []) upper)

  -- the way to a child of an inner node, by the way to the node
  pub child-way : {index : ℕ} → index ≤ length s.es → {spot next : Spot} → IsBelow spot number index next → {upper : Rows K} {numbers : _}
      → IsWay numbers spot upper (length n.before) → {place : ℕ} → place ≡ length (flat s.before) + index → IsWay (number ∷ numbers) next (s.row ∷ upper) place
  child-way low {spot} b {upper} {numbers} w place_is =
      way-below (head_at s.at refl refl low place_is) (omega arith) (rw s.before_is w) b

-- what is said of the leaf at the end of a way: it is the first, or else the last
abbrev pub NearSaid : {K V : Type 0} → Bool → Spot → ℕ → Row K V → Rows K → Type 0
NearSaid on end leaf leaves rows = (others : List ℕ) × IsWay others end rows (nearest on (length leaves)) × NumberAt (heads leaves) (nearest on (length leaves)) leaf

module _ {K V : Type 0} {most : ℕ} {slots : List (Content K V)} (capacity : IsLeafCapacity most) {number : ℕ} {content : Content K V}
    (read : slice_get slots number ≡ Some content) (other : IsInner content → ⊥) (spot : Spot) where
  module _ {leaves : Row K V} {rows : Rows K} {Side : Heads K → Heads K → Type 0} (d : Sided most slots Side leaves rows spot number) where
    ended : LeafUnder d.on
    ended = leaf_under capacity d.on read other

    way-here : {place : ℕ} → length d.before ≡ place → (others : List ℕ) × IsWay others spot rows place × NumberAt (heads leaves) place number
    way-here {place} is = let all = rw ended.lower_is at d.under.stacked in (
      d.numbers,
      rw (← (ap (λ z. z ++ d.upper) (sym ended.lower_is) ∙ d.join)) (rw (← is) d.way),
      rw (← is) ((d.first, cc (slice_get_at d.before (d.first, number) d.after (length d.before) refl))),
    )

    ends : d.after ≡ [] → length d.before ≡ length leaves - 1
    ends none = last-place capacity ended none

  pub near-here : (on : Bool) → OnUnder most slots (IsNearest on) spot number (NearSaid on spot number)
  near-here true leaves rows d = way-here d (ap length d.side)
  near-here false leaves rows d = way-here d (ends d d.side)

-- a level down, to the child on that side
module _ {K V : Type 0} {most : ℕ} {slots : List (Content K V)} (capacity : IsLeafCapacity most) {number : ℕ} {content : Content K V}
    (read : slice_get slots number ≡ Some content) (inner : IsInner content)
    {Side : Heads K → Heads K → Type 0} {index : ℕ} {place : Row K V → ℕ} (turns : Turns most slots Side place number index) {leaves : Row K V}
    {rows : Rows K} {spot : Spot} (s : Sided most slots Side leaves rows spot number) where
  abbrev here : InnerUnder s.on
  here = inner_under capacity s.on read inner

  low-here : index ≤ length here.es
  low-here = turns.within here s.side

  side-asks : ChildAsked slots number index
  side-asks = (_, _, here.slot_is, omega (arith, low-here, item_count (here.e ∷ here.es)))

  side-low : length s.lower + spot.height ≤ 16 → (spot.code < 35184372088832) × (spot.height < 16) × (index < 8)
  side-low low = (
    code-low 15 s.upper s.numbers spot.code _ s.way.coded (omega (arith, here.count_is, s.way.height_is)),
    omega (arith, here.count_is),
    omega (arith, low-here, here.room),
  )

  side-on : {child : ℕ} → ChildRead slots number index child → {next : Spot} → IsBelow spot number index next
      → (d : Sided most slots Side leaves rows next child) × (length s.lower ≡ suc (length d.lower))
  side-on reads b = let c = child_under here index reads in (
    record {
      on = c.on;
      upper = here.row ∷ s.upper;
      numbers = number ∷ s.numbers;
      side = turns.keeps here s.side c;
      way = child-way here low-here b s.way c.place_is;
      join = ap (λ z. z ++ (here.row ∷ s.upper)) c.rows_are ∙ rows-join here s.upper ∙ s.join;
    },
    omega (arith, here.count_is, ap length c.rows_are),
  )

-- from a node on one side of its level the way down has come to a node further down, and it ends where the way from there ends
pub record GoesDown {K V : Type 0} (most : ℕ) (slots : List (Content K V)) (Side : Heads K → Heads K → Type 0) (Said : Spot → ℕ → Row K V → Rows K → Type 0)
    (start : Spot) (node : ℕ) (here : Spot) (lower : ℕ) : Type 0 where
  pub capacity : IsLeafCapacity most
  pub under : HasUnder most slots Side here lower
  pub ends : (end : Spot) (leaf : ℕ) → OnUnder most slots Side here lower (Said end leaf) → OnUnder most slots Side start node (Said end leaf)

module _ {K V : Type 0} {most : ℕ} {slots : List (Content K V)} {Side : Heads K → Heads K → Type 0} {Said : Spot → ℕ → Row K V → Rows K → Type 0}
    {start spot : Spot} {node number : ℕ} (w : GoesDown most slots Side Said start node spot number)
    {content : Content K V} (read : slice_get slots number ≡ Some content) (inner : IsInner content) {index : ℕ} {place : Row K V → ℕ}
    (turns : Turns most slots Side place number index) where
  pub down-asks : ChildAsked slots number index
  down-asks = side-asks w.capacity read inner turns w.under.2

  pub down-low : (spot.code < 35184372088832) × (spot.height < 16) × (index < 8)
  down-low = side-low w.capacity read inner turns w.under.2 w.under.3

  pub down-on : {child : ℕ} → ChildRead slots number index child → {next : Spot} → IsBelow spot number index next →
      GoesDown most slots Side Said start node next child
  down-on reads b = record {
    capacity = w.capacity;
    under = (let r = side-on w.capacity read inner turns w.under.2 reads b in (w.under.0, w.under.1, r.0, omega (arith, w.under.3, r.1)));
    ends = λ end leaf says. w.ends end leaf (λ leaves rows d. says leaves rows (side-on w.capacity read inner turns d reads b).0);
  }

-- the way from the root down, at its beginning
pub way-root : {K : Type 0} (spot : Spot) → spot.code ≡ 0 → spot.height ≡ 0 → IsWay {K = K} [] spot [] 0
way-root spot code height = record { coded = (code, refl); parent_is = λ low. absurd (omega arith); grand_is = λ low. absurd (omega arith); height_is = height }

-- the way from the root down, at its end
pub way-spot : {K V : Type 0} (table : Table K V) (root : ℕ) {spot : Spot} {place numbers : _} → IsTrue (is_root table.nodes root)
    → IsWay numbers spot (tree_of table.nodes root).above place → IsSpotAt table root spot place
way-spot table root {numbers} is v =
    record { root_is = is; numbers = numbers; coded = v.coded; parent_is = v.parent_is; grand_is = v.grand_is; height_is = v.height_is }

-- a root has entries
pub root-held : {K V : Type 0} {n : ℕ} {table : Table K V} (union : IsUnion n table) (root : ℕ) (is : IsTrue (is_root table.nodes root)) → LastAsked table.nodes root
root-held union root is = node_held union.1.capacity (under-root root union is)

-- a root is alone in its level
root-side : (K : Type 0) (on : Bool) → IsNearest {K = K} on [] []
root-side K true = refl
root-side K false = refl

-- the ways down from a root
module _ {K V : Type 0} {n : ℕ} {table : Table K V} (union : IsUnion n table) {root : ℕ} (is : IsTrue (is_root table.nodes root)) {spot : Spot}
    (code : spot.code ≡ 0) (height : spot.height ≡ 0) where
  abbrev root-sided : {Side : Heads K → Heads K → Type 0} → Side [] []
      → Sided n table.nodes Side (tree_of table.nodes root).leaves (tree_of table.nodes root).above spot root
  root-sided side = record {
    on = under-root root union is;
    upper = [];
    numbers = [];
    side = side;
    way = way-root spot code height;
    join = append-nil (tree_of table.nodes root).above;
  }

  pub root-under : {Side : Heads K → Heads K → Type 0} → Side [] [] → HasUnder n table.nodes Side spot root
  root-under side = ((tree_of table.nodes root).leaves, (tree_of table.nodes root).above, root-sided side, omega (arith, (is-rooted root union is).low))

  pub end-of : (on : Bool) {end : Spot} {leaf : ℕ} → OnUnder n table.nodes (IsNearest on) spot root (NearSaid on end leaf)
      → IsSpotAt table root end (nearest on (leaf_count table root)) × IsLeafAt table root (nearest on (leaf_count table root)) leaf
  end-of on says = let r = says _ _ (root-sided (root-side K on)) in (way-spot table root is r.1, leaf-at union root is r.2)
