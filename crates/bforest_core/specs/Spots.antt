-- The place of a leaf in its tree as a number, with an octal digit for each level of inner nodes.
use Rattle.std.proofs.Math.Logic.{◌⊎◌}
use Rattle.std.specs.Prelude.{◌≡◌, ℕ, zero, suc, Bool, true, false, ◌+◌, ◌-◌, ◌<◌, ◌/◌, ◌%◌, IfSome, IsTrue, List, [], ◌∷◌, ◌++◌, drop, length, get_or, slice_get, take, Option, Some, None, ◌≤◌, ◌*◌, ◌^◌}
use Rattle.bforest_nodes.specs.Content.{Content, entry_count}
use Rattle.bforest_core.specs.Descent.{IsFirst, IsLast, NodeOver, SearchThrough}
use Rattle.std.specs.declared.cmp.Ordering.{Ordering}
use Rattle.bforest_core.specs.Levels.{LevelNode, flat, node, Stacked}
use Rattle.bforest_core.specs.Place.{IsAt, RowsIn, inner_content, leaf_content, root_above}
use Rattle.bforest_core.specs.Table.{Table}
use Rattle.bforest_core.specs.Trees.{is_root, tree_of}
use Rattle.bforest_core.specs.declared.spot.Spot.{Spot}

module _ {K : Type 0} where
  -- the way down through rows, whose nodes have these numbers, the lowest first, to the entry at this place of the lowest: the code's
  -- digits are the indices, the last digit that in the lowest row
  abbrev pub Coded : List ℕ → List (List (LevelNode K ℕ)) → ℕ → ℕ → Type 0
  Coded numbers [] code place = (code ≡ 0) × (place ≡ 0)
  Coded numbers (row ∷ rows) code place =
      (at : IsAt row (get_or numbers 0 0) (code % 8) place) × Coded (drop 1 numbers) rows (code / 8) (length at.before)

  -- the place to which a code leads down rows, the lowest first
  abbrev pub place_by : List (List (LevelNode K ℕ)) → ℕ → ℕ
  place_by [] code = 0
  place_by (row ∷ rows) code = length (flat (take (place_by rows (code / 8)) row)) + code % 8

  -- the node at this place of a level has this number
  abbrev pub NumberAt : List (K × ℕ) → ℕ → ℕ → Type 0
  NumberAt list place number = (first : K) × (slice_get list place ≡ Some (first, number))

  -- the rows stand over these nodes and lie in the slots, under a root, and the way of this code goes down to the node at this place
  pub record CodedOver {V : Type 0} (slots : List (Content K V)) (root code depth : ℕ) (numbers : List ℕ) (rows : List (List (LevelNode K ℕ))) (list : List (K × ℕ)) (place : ℕ) : Type 0 where
    pub stacked : Stacked list rows
    pub inside : RowsIn slots rows
    pub coded : Coded numbers rows code place
    pub root_is : root_above list rows ≡ root
    pub depth_is : depth ≡ length rows

-- the way of a code goes down these rows, which stand over these nodes, to the node at this place
pub record Way {K V : Type 0} (slots : List (Content K V)) (root code depth : ℕ) : Type 0 where
  pub numbers : List ℕ
  pub rows : List (List (LevelNode K ℕ))
  pub list : List (K × ℕ)
  pub place : ℕ
  pub over : CodedOver slots root code depth numbers rows list place
  pub open over use *

-- no inner node is above a spot's leaf: it is the only one of its tree, or there is none
abbrev pub HasNoParent : Spot → Type 0
HasNoParent spot = spot.height ≡ 0

-- a code without this many of its last digits
abbrev pub without_last : ℕ → ℕ → ℕ
without_last zero code = code
without_last (suc count) code = without_last count (code / 8)

-- the way of a spot begins with that of another
abbrev pub BeginsWith : Spot → Spot → Type 0
BeginsWith start spot = (start.height ≤ spot.height) × (without_last (spot.height - start.height) spot.code ≡ start.code)

-- the leaf before has the same parent
abbrev pub HasPrev : Spot → Type 0
HasPrev spot = (0 < spot.height) × (0 < spot.code % 8)

module _ {K V : Type 0} where
  -- the spot is that of the leaf at this place of the leaves of the tree under a root
  pub record IsSpotAt (table : Table K V) (root : ℕ) (spot : Spot) (place : ℕ) : Type 0 where
    pub root_is : IsTrue (is_root table.nodes root)
    pub numbers : List ℕ
    pub coded : Coded numbers (tree_of table.nodes root).above spot.code place
    pub parent_is : 0 < spot.height → get_or numbers 0 0 ≡ spot.parent
    pub grand_is : 1 < spot.height → get_or (drop 1 numbers) 0 0 ≡ spot.grand
    pub height_is : spot.height ≡ length (tree_of table.nodes root).above

  -- the leaf with this number stands at this place among the leaves of the tree under a root, and has these entries
  pub record IsLeafAt (table : Table K V) (root place number : ℕ) : Type 0 where
    pub before : List (LevelNode K V)
    pub entries : List (K × V)
    pub after : List (LevelNode K V)
    pub leaves_are : (tree_of table.nodes root).leaves ≡ before ++ node number entries ∷ after
    pub at : length before ≡ place
    pub slot_is : slice_get table.nodes number ≡ Some (leaf_content entries)
    pub some : 1 ≤ length entries

  -- how many leaves the tree under a root has
  abbrev pub leaf_count : Table K V → ℕ → ℕ
  leaf_count table root = length (tree_of table.nodes root).leaves

  -- the place of a spot's leaf among the leaves of the tree under a root, computed
  abbrev pub leaf_place : Table K V → ℕ → Spot → ℕ
  leaf_place table root spot = place_by (tree_of table.nodes root).above spot.code

  -- the root and the place of a spot's leaf
  pub record SpotOn (table : Table K V) (spot : Spot) : Type 0 where
    pub root : ℕ
    pub place : ℕ
    pub is : IsSpotAt table root spot place

  -- the next leaf has the same parent
  pub record HasNext (table : Table K V) (spot : Spot) : Type 0 where
    pub some : 0 < spot.height
    pub entries : List (K × ℕ)
    pub parent : slice_get table.nodes spot.parent ≡ Some (inner_content entries)
    pub within : spot.code % 8 + 1 < length entries

module _ {K : Type 0} where
  -- the spot of a node at this place of a level, below these rows
  pub record IsWay (numbers : List ℕ) (spot : Spot) (rows : List (List (LevelNode K ℕ))) (place : ℕ) : Type 0 where
    pub coded : Coded numbers rows spot.code place
    pub parent_is : 0 < spot.height → get_or numbers 0 0 ≡ spot.parent
    pub grand_is : 1 < spot.height → get_or (drop 1 numbers) 0 0 ≡ spot.grand
    pub height_is : spot.height ≡ length rows

-- A direction, onwards or backwards. It says whether a node has a child on that side of the one at an index, which of two
-- places is beside the other, and which of so many places is the last on that side.
pub record Direction (K V : Type 0) : Type 1 where
  pub HasChild : Content K V → ℕ → Type 0
  pub Beside : ℕ → ℕ → Type 0
  pub AtEnd : ℕ → ℕ → Type 0

module _ {K V : Type 0} where
  abbrev pub onwards : Direction K V
  onwards = record {
    HasChild = λ content index. index + 1 < entry_count content;
    Beside = λ place to. to ≡ suc place;
    AtEnd = λ place count. suc place ≡ count;
  }

  abbrev pub backwards : Direction K V
  backwards = record { HasChild = λ content index. 0 < index; Beside = λ place to. suc to ≡ place; AtEnd = λ place count. place ≡ 0 }

  abbrev pub toward : Bool → Direction K V
  toward true = onwards
  toward false = backwards

-- of so many places that by which a way comes in: the first where it goes onwards, else the last
abbrev pub nearest : Bool → ℕ → ℕ
nearest true count = 0
nearest false count = count - 1

-- such a node of a level: none is before it, or else none is after it
abbrev pub IsNearest : {K : Type 0} → Bool → List (K × ℕ) → List (K × ℕ) → Type 0
IsNearest true = IsFirst
IsNearest false = IsLast

module _ {K V : Type 0} (d : Direction K V) (slots : List (Content K V)) (node index : ℕ) where
  -- a node has no child on that side of the one at an index
  abbrev pub HasNone : Type 0
  HasNone = (content : Content K V) → slice_get slots node ≡ Some content → ¬ d.HasChild content index

  -- there is a child beside the one at this index, and it has the index `to`
  abbrev pub HasBeside : ℕ → Type 0
  HasBeside to = d.Beside index to × ((content : Content K V) → slice_get slots node ≡ Some content → d.HasChild content index)

module _ {K V : Type 0} (slots : List (Content K V)) (root code depth : ℕ) where
  -- the way of a code ends at this node, whose spot this is
  abbrev pub Leads : Spot → ℕ → Type 0
  Leads here number = (w : Way slots root code depth) → IsWay w.numbers here w.rows w.place × NumberAt w.list w.place number

  -- the node beside the one at which the way of a code ends, with its spot, or nothing where that one is at an end of its level
  pub record IsBesideOf (d : Direction K V) (found : Option (Spot × ℕ)) : Type 0 where
    pub some : IfSome found (λ next. (w : Way slots root code depth) → (to : ℕ) × d.Beside w.place to ×
        (others : List ℕ) × IsWay others next.0 w.rows to × NumberAt w.list to next.1)
    pub none : found ≡ None → (w : Way slots root code depth) → d.AtEnd w.place (length w.list)

module _ {K V : Type 0} (slots : List (Content K V)) (root : ℕ) (here : Spot) (node : ℕ) (d : Direction K V) where
  -- the child of a node beside the one at an index was found, or there is none, and what was found further up stays
  abbrev pub IsLower : ℕ → Option (Spot × ℕ) → Option (Spot × ℕ) → Type 0
  IsLower index above found =
      ((child : Spot × ℕ) × (found ≡ Some child) × IsBesideOf slots root (here.code * 8 + index) (suc here.height) d (Some child) × (child.0.height ≡ suc here.height))
      ⊎ ((content : Content K V) × (slice_get slots node ≡ Some content) × (¬ d.HasChild content index) × (found ≡ above))

module _ {K V : Type 0} (slots : List (Content K V)) (root code height : ℕ) where
  -- the way of a code is followed down to this node, with some levels left
  pub record Followed (left : ℕ) (spot : Spot) (node : ℕ) : Type 0 where
    pub low : left ≤ height
    pub height_is : spot.height ≡ height - left
    pub code_is : spot.code ≡ code / 2 ^ (3 * left)
    pub leads : Leads slots root spot.code spot.height spot node

  module _ (d : Direction K V) where
    -- on the way of a code the node with this many levels left has no child beside the one to which the way goes
    pub record EndsAt (left : ℕ) : Type 0 where
      pub spot : Spot
      pub node : ℕ
      pub content : Content K V
      pub way : Followed left spot node
      pub slot_is : slice_get slots node ≡ Some content
      pub none : ¬ d.HasChild content (code / 2 ^ (3 * (left - 1)) % 8)

    -- this is the lowest node beside the way of a code, as far as the way was followed, and its spot
    pub record IsTurn (left : ℕ) (spot : Spot) (number : ℕ) : Type 0 where
      pub level : ℕ
      pub height_is : spot.height ≡ height - level
      pub within : level ≤ height
      pub low : left ≤ level
      pub beside : IsBesideOf slots root (code / 2 ^ (3 * level)) (height - level) d (Some (spot, number))
      pub ends : (j : ℕ) → left < j → j ≤ level → EndsAt j

-- a spot's way goes to a node on one side of its level; the rows below the node and those above it are these rows
pub record Sided {K V : Type 0} (most : ℕ) (slots : List (Content K V)) (Side : List (K × ℕ) → List (K × ℕ) → Type 0) (leaves : List (LevelNode K V))
    (rows : List (List (LevelNode K ℕ))) (spot : Spot) (number : ℕ) : Type 0 where
  pub on : NodeOver most slots leaves number
  pub open on use *
  pub upper : List (List (LevelNode K ℕ))
  pub numbers : List ℕ
  pub side : Side before after
  pub way : IsWay numbers spot upper (length before)
  pub join : lower ++ upper ≡ rows

module _ {K V : Type 0} (most : ℕ) (slots : List (Content K V)) (Side : List (K × ℕ) → List (K × ℕ) → Type 0) (spot : Spot) (number : ℕ) where
  -- a spot's way goes to a node on one side of its level, under which lie some leaves and rows
  abbrev pub HasUnder : Type 0
  HasUnder = (leaves : List (LevelNode K V)) × (rows : List (List (LevelNode K ℕ))) × (d : Sided most slots Side leaves rows spot number)
      × (length d.lower + spot.height ≤ 16)

  -- what is said of the leaves under that node and of all rows above them, whichever they are
  abbrev pub OnUnder : (List (LevelNode K V) → List (List (LevelNode K ℕ)) → Type 0) → Type 0
  OnUnder Said = (leaves : List (LevelNode K V)) (rows : List (List (LevelNode K ℕ))) → Sided most slots Side leaves rows spot number → Said leaves rows

-- a search for the key goes through the node to which a spot's way goes; the rows below the node and those above it are these rows
pub record SearchAt {K V : Type 0} (cmp : K → K → Ordering) (most : ℕ) (slots : List (Content K V)) (leaves : List (LevelNode K V))
    (rows : List (List (LevelNode K ℕ))) (key : K) (spot : Spot) (number : ℕ) : Type 0 where
  pub on : SearchThrough cmp most slots leaves key number spot.height
  pub upper : List (List (LevelNode K ℕ))
  pub numbers : List ℕ
  pub way : IsWay numbers spot upper (length on.before)
  pub join : on.lower ++ upper ≡ rows
