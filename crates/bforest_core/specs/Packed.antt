-- Trees with the fewest nodes: all nodes of a level are full but the last.
use Rattle.std.specs.Int.{div_ceil}
use Rattle.std.specs.Prelude.{if◌then◌else◌, nat_lt, ◌≡◌, ◌≤◌, ◌<◌, ℕ, zero, suc, ◌+◌, ◌*◌, List, [], ◌∷◌, length, map, slice_get, Some}
use Rattle.bforest_core.specs.Levels.{LevelNode, Topped, flat, heads, sizes}
use Rattle.bforest_core.specs.Place.{RowIn, RowsIn, leaf_content}
use Rattle.bforest_core.specs.Removal.{numbers_under}
use Rattle.bforest_core.specs.Table.{Table}
use Rattle.bforest_core.specs.Trades.{Draws}

-- all nodes of the level have `most` entries or children but the last, which has at most so many
abbrev pub IsPackedLevel : ℕ → List ℕ → Type 0
IsPackedLevel most [] = Unit {0}
IsPackedLevel most (size ∷ []) = (1 ≤ size) × (size ≤ most)
IsPackedLevel most (size ∷ next ∷ rest) = (size ≡ most) × IsPackedLevel most (next ∷ rest)

abbrev pub ArePackedLevels : List (List ℕ) → Type 0
ArePackedLevels [] = Unit {0}
ArePackedLevels (level ∷ levels) = IsPackedLevel 8 level × ArePackedLevels levels

-- the levels of a tree whose leaves have at most `most` entries
abbrev pub ArePacked : ℕ → List (List ℕ) → Type 0
ArePacked most [] = Unit {0}
ArePacked most (leaves ∷ levels) = IsPackedLevel most leaves × ArePackedLevels levels

-- all nodes of the level are full
abbrev pub IsFullLevel : ℕ → List ℕ → Type 0
IsFullLevel most [] = Unit {0}
IsFullLevel most (size ∷ rest) = (size ≡ most) × IsFullLevel most rest

abbrev pub AreFullLevels : List (List ℕ) → Type 0
AreFullLevels [] = Unit {0}
AreFullLevels (level ∷ levels) = IsFullLevel 8 level × AreFullLevels levels

-- the most entries below a node of a level, where the leaves are level 0 and have at most `most`
abbrev pub width : ℕ → ℕ → ℕ
width most zero = most
width most (suc level) = 8 * width most level

-- how many nodes hold so many entries, on a level and those below it
abbrev pub need_of : ℕ → ℕ → ℕ → ℕ
need_of most zero entries = div_ceil entries most
need_of most (suc level) entries = need_of most level entries + div_ceil entries (width most (suc level))

-- how many nodes are on the levels above so many: a node for each eight, up to a level of one
abbrev pub nodes_over : ℕ → ℕ → ℕ
nodes_over zero count = 0
nodes_over (suc levels) count = if nat_lt 1 count then div_ceil count 8 + nodes_over levels (div_ceil count 8) else 0

-- the nodes of a packed tree of so many entries, whose leaves have at most `most`
abbrev pub fewest : ℕ → ℕ → ℕ
fewest most entries = div_ceil entries most + nodes_over entries (div_ceil entries most)

-- the rows from a level whose nodes are listed up to a level whose nodes are `top`, whatever their sizes
abbrev pub Piled : {K : Type 0} → List (K × ℕ) → List (List (LevelNode K ℕ)) → List (K × ℕ) → Type 0
Piled list [] top = list ≡ top
Piled list (row ∷ rows) top = (flat row ≡ list) × Piled (heads row) rows top

-- each level has a node
abbrev pub AreSome : {K : Type 0} → List (List (LevelNode K ℕ)) → Type 0
AreSome [] = Unit {0}
AreSome (row ∷ rows) = (0 < length (sizes row)) × AreSome rows

-- a packed tree of so many entries has so many nodes, its root is on this level and has room for so many entries below it; a root one level lower
-- would have too little
pub record IsPlan (most entries nodes level room : ℕ) : Type 0 where
  pub room_is : room ≡ width most level
  pub nodes_are : nodes ≡ need_of most level entries
  pub enough : entries ≤ room
  pub wide : (low : ℕ) → level ≡ suc low → width most low < entries
  pub small : room < 1152921504606846976
  pub few : level ≤ 16

module _ {K V : Type 0} where
  -- packed leaves with these entries, and packed rows over them up to these nodes
  pub record Packs (most : ℕ) (nodes : Table K V) (entries : List (K × V)) (level : ℕ) (leaves : List (LevelNode K V)) (lower : List (List (LevelNode K ℕ))) (top : List (K × ℕ)) : Type 0 where
    pub leaves_in : RowIn leaf_content nodes.nodes leaves
    pub rows_in : RowsIn nodes.nodes lower
    pub piled : Piled (heads leaves) lower top
    pub list_is : flat leaves ≡ entries
    pub height : length lower ≡ level
    pub leaves_packed : IsPackedLevel most (sizes leaves)
    pub rows_packed : ArePackedLevels (map sizes lower)
    pub leaves_some : 0 < length (sizes leaves)
    pub rows_some : AreSome lower
    pub many : length (numbers_under leaves lower) ≡ need_of most level (length entries)

  -- a node of this level was made of nodes from the front of the chain, with these entries below it
  pub record Built (most : ℕ) (old new : Table K V) (entries : List (K × V)) (level number : ℕ) : Type 0 where
    pub leaves : List (LevelNode K V)
    pub lower : List (List (LevelNode K ℕ))
    pub first : K
    pub taken : List ℕ
    pub packs : Packs most new entries level leaves lower ((first, number) ∷ [])
    pub full : length entries ≡ width most level → IsFullLevel most (sizes leaves) × AreFullLevels (map sizes lower)
    pub topped : (low : ℕ) → level ≡ suc low → width most low < length entries → Topped (heads leaves) lower
    pub value : V
    pub first_is : slice_get entries 0 ≡ Some (first, value)
    pub draws : Draws old new [] (numbers_under leaves lower) taken
