-- A tree in a pool's table, and a path in a tree.
use Rattle.std.specs.Prelude.{◌≡◌, ℕ, zero, suc, ◌+◌, ◌≤◌, ◌<◌, if◌then◌else◌, nat_eq, List, [], ◌∷◌, ◌++◌, map, length, drop, get_or, slice_get, Option, Some, None}
use Rattle.std.specs.List.{flat_map}
use Rattle.bforest_nodes.specs.Content.{Content, Inner, Leaf}
use Rattle.bforest_core.specs.Levels.{LevelNode, node, flat, heads, numbers, Tree}

-- the keys of some entries
abbrev pub entry_keys : {K X : Type 0} → List (K × X) → List K
entry_keys entries = map (λ entry. entry.0) entries

-- the values or children of some entries
abbrev pub entry_items : {K X : Type 0} → List (K × X) → List X
entry_items entries = map (λ entry. entry.1) entries

-- what a leaf's slot holds
abbrev pub leaf_content : {K V : Type 0} → List (K × V) → Content K V
leaf_content entries = Leaf (entry_keys entries) (entry_items entries)

-- what an inner node's slot holds: all keys but the first, so each stored key is the first below the child to
-- its right
abbrev pub inner_content : {K V : Type 0} → List (K × ℕ) → Content K V
inner_content entries = Inner (drop 1 (entry_keys entries)) (entry_items entries)

-- the slot of each node of the row holds its entries
abbrev pub RowIn : {K V X : Type 0} → (List (K × X) → Content K V) → List (Content K V) → List (LevelNode K X) → Type 0
RowIn content slots [] = Unit {0}
RowIn content slots (node number entries ∷ row) =
    (slice_get slots number ≡ Some (content entries)) × RowIn content slots row

-- the slot of each node of these inner rows holds its entries
abbrev pub RowsIn : {K V : Type 0} → List (Content K V) → List (List (LevelNode K ℕ)) → Type 0
RowsIn slots [] = Unit {0}
RowsIn slots (row ∷ rows) = RowIn inner_content slots row × RowsIn slots rows

-- the tree is in these slots
pub record IsIn {K V : Type 0} (slots : List (Content K V)) (tree : Tree K V) : Type 0 where
  pub leaves_in : RowIn leaf_content slots tree.leaves
  pub rows_in : RowsIn slots tree.above

-- how often a number occurs in a list
abbrev pub count : ℕ → List ℕ → ℕ
count number [] = 0
count number (first ∷ rest) = (if nat_eq first number then 1 else 0) + count number rest

-- no number occurs in the list twice
abbrev pub Distinct : List ℕ → Type 0
Distinct list = (number : ℕ) → count number list ≤ 1

-- the numbers of a tree's nodes
abbrev pub numbers_of : {K V : Type 0} → Tree K V → List ℕ
numbers_of tree = numbers tree.leaves ++ flat_map numbers tree.above

-- the number of the first node of a level
abbrev pub first_number : {K : Type 0} → List (K × ℕ) → ℕ
first_number [] = 4294967295
first_number (first ∷ rest) = first.1

-- the number of the root over a level
abbrev pub root_above : {K : Type 0} → List (K × ℕ) → List (List (LevelNode K ℕ)) → ℕ
root_above list [] = first_number list
root_above list (row ∷ rows) = root_above (heads row) rows

-- the number of a tree's root
abbrev pub root_of : {K V : Type 0} → Tree K V → ℕ
root_of tree = root_above (heads tree.leaves) tree.above

-- where a path stands on a level: its node is in the row, and its index in the node is this place of the row's entries
pub record IsAt {K X : Type 0} (row : List (LevelNode K X)) (number index place : ℕ) : Type 0 where
  pub before : List (LevelNode K X)
  pub entries : List (K × X)
  pub after : List (LevelNode K X)
  pub row_is : row ≡ before ++ node number entries ∷ after
  pub within : index < length entries
  pub place_is : place ≡ length (flat before) + index

-- where a path stands on the rows from a level up: each node is the entry above it, and the lowest entry is
-- at the place. The path is the numbers of its nodes and its index in each, the leaf's first
abbrev pub StandsAbove : {K : Type 0} → List ℕ → List ℕ → ℕ → List (List (LevelNode K ℕ)) → ℕ → Type 0
StandsAbove path indices level [] place = place ≡ 0
StandsAbove path indices level (row ∷ rows) place =
    (at : IsAt row (get_or path level 0) (get_or indices level 0) place) × StandsAbove path indices (suc level) rows (length at.before)

-- the path stands at this entry of the tree
pub record Stands {K V : Type 0} (path indices : List ℕ) (size : ℕ) (tree : Tree K V) (place : ℕ) : Type 0 where
  pub leaf : IsAt tree.leaves (get_or path 0 0) (get_or indices 0 0) place
  pub above : StandsAbove path indices 1 tree.above (length leaf.before)
  pub size_is : size ≡ suc (length tree.above)

-- the path stands at an entry of a leaf of the tree, or past a leaf's last entry
pub record PointsAt {K V : Type 0} (path indices : List ℕ) (size : ℕ) (tree : Tree K V) (place : ℕ) : Type 0 where
  pub before : List (LevelNode K V)
  pub entries : List (K × V)
  pub after : List (LevelNode K V)
  pub leaves_are : tree.leaves ≡ before ++ node (get_or path 0 0) entries ∷ after
  pub within : get_or indices 0 0 ≤ length entries
  pub place_is : place ≡ length (flat before) + get_or indices 0 0
  pub above : StandsAbove path indices 1 tree.above (length before)
  pub size_is : size ≡ suc (length tree.above)

-- the path stands where an entry may be inserted: after an entry of the leaf, or before the first leaf
pub record PlacedAt {K V : Type 0} (path indices : List ℕ) (size : ℕ) (tree : Tree K V) (place : ℕ) : Type 0 where
  pub points : PointsAt path indices size tree place
  pub first : get_or indices 0 0 ≡ 0 → points.before ≡ []

module _ {K V : Type 0} where
  -- the path stands at this entry of the tree, or at the end with no node, whose place is after all entries
  abbrev pub IsPathAt : List ℕ → List ℕ → ℕ → Tree K V → ℕ → Type 0
  IsPathAt path indices zero tree place = place ≡ length (flat tree.leaves)
  IsPathAt path indices (suc size) tree place = Stands path indices (suc size) tree place

-- the entry before a place, if any
abbrev pub entry_before : {X : Type 0} → List X → ℕ → Option X
entry_before list zero = None
entry_before list (suc place) = slice_get list place
