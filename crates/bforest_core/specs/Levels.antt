-- A B+-tree, level by level: each level is the row of its nodes from left to right.
use Rattle.std.specs.Prelude.{◌≡◌, ℕ, ◌+◌, ◌/◌, ◌≤◌, List, [], ◌∷◌, ◌++◌, map, length}

-- the greatest height of a tree
abbrev pub most_levels : ℕ
most_levels = 17

-- the highest level of a tree, where the leaves are level 0
abbrev pub top_level : ℕ
top_level = 16

-- a node is its number and its entries: a key with a value in a leaf, the first key below a child with the
-- child's number in an inner node
pub data LevelNode (K X : Type 0) : Type 0 where
  node : ℕ → List (K × X) → LevelNode K X

module _ {K X : Type 0} where
  -- the entries of a row, from left to right
  abbrev pub flat : List (LevelNode K X) → List (K × X)
  flat [] = []
  flat (node number entries ∷ rest) = entries ++ flat rest

  -- a node as an entry of the level above: its first key and its number
  abbrev pub head_of : ℕ → List (K × X) → List (K × ℕ)
  head_of number [] = []
  head_of number (entry ∷ entries) = (entry.0, number) ∷ []

  -- a row as the entries of the level above
  abbrev pub heads : List (LevelNode K X) → List (K × ℕ)
  heads [] = []
  heads (node number entries ∷ rest) = head_of number entries ++ heads rest

  -- how many entries each node of a row has
  abbrev pub sizes : List (LevelNode K X) → List ℕ
  sizes [] = []
  sizes (node number entries ∷ rest) = length entries ∷ sizes rest

  -- the number of each node of a row
  abbrev pub numbers : List (LevelNode K X) → List ℕ
  numbers [] = []
  numbers (node number entries ∷ rest) = number ∷ numbers rest

  -- the least size of a node before these: only the rightmost node may be less than half full
  abbrev pub least : ℕ → List (LevelNode K X) → ℕ
  least half [] = 1
  least half (next ∷ rest) = half

  -- every node of the row but the last is at least half full, the last is not empty, and none exceeds its capacity
  abbrev pub FitRow : ℕ → ℕ → List (LevelNode K X) → Type 0
  FitRow half most [] = Unit {0}
  FitRow half most (node number entries ∷ rest) =
      (least half rest ≤ length entries) × (length entries ≤ most) × FitRow half most rest

  -- every node of the row is at least half full, and none exceeds its capacity
  abbrev pub Solid : ℕ → ℕ → List (LevelNode K X) → Type 0
  Solid half most [] = Unit {0}
  Solid half most (node number entries ∷ rest) =
      (half ≤ length entries) × (length entries ≤ most) × Solid half most rest

module _ {K : Type 0} where
  -- the rows above a level whose nodes are listed: each row's entries are the nodes of the row below, and the
  -- top level has one node
  abbrev pub Stacked : List (K × ℕ) → List (List (LevelNode K ℕ)) → Type 0
  Stacked list [] = length list ≡ 1
  Stacked list (row ∷ rows) = (flat row ≡ list) × FitRow 4 8 row × Stacked (heads row) rows

  -- each level with a row above it has 2 nodes or more
  abbrev pub Topped : List (K × ℕ) → List (List (LevelNode K ℕ)) → Type 0
  Topped list [] = Unit {0}
  Topped list (row ∷ rows) = (2 ≤ length list) × Topped (heads row) rows

-- the row of the leaves, and the rows above it
pub record Tree (K V : Type 0) : Type 0 where
  pub leaves : List (LevelNode K V)
  pub above : List (List (LevelNode K ℕ))

-- the fewest entries of a leaf that is not the last, where a leaf has at most n
abbrev pub half_of : ℕ → ℕ
half_of n = (n + 1) / 2

module _ {K V : Type 0} where
  -- the leaves are at least half full, the last not empty; the rows above them fit, and an inner root has 2
  -- children or more
  pub record IsFit (most : ℕ) (tree : Tree K V) : Type 0 where
    pub leaves_fit : FitRow (half_of most) most tree.leaves
    pub stacked : Stacked (heads tree.leaves) tree.above
    pub topped : Topped (heads tree.leaves) tree.above

  -- the sizes of the nodes, level by level, the leaves first
  abbrev pub sizes_of : Tree K V → List (List ℕ)
  sizes_of tree = sizes tree.leaves ∷ map sizes tree.above
