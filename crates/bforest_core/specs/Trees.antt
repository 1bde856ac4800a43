-- The trees of a table: computed, and as a witness.
use Rattle.std.specs.Prelude.{◌≡◌, ℕ, zero, suc, ◌≤◌, ◌↔◌, ◌≢◌, Bool, true, false, if◌then◌else◌, nat_lt, nat_eq, ◌&&◌, IsTrue, None, List, [], ◌∷◌, ◌++◌, map, length, take, drop, reverse, slice_index_or}
use Rattle.std.specs.List.{flat_map, zip}
use Rattle.bforest_nodes.specs.Content.{Content, Inner, Leaf, Free, IsFree, IsLeafCapacity, children_of}
use Rattle.bforest_core.specs.Table.{Table}
use Rattle.bforest_core.specs.Levels.{LevelNode, node, flat, heads, Tree, IsFit, top_level}
use Rattle.bforest_core.specs.Place.{IsIn, numbers_of, count}

module _ {K V : Type 0} where
  -- what a slot holds; a number past the last slot counts as free
  abbrev pub slot : List (Content K V) → ℕ → Content K V
  slot slots number = slice_index_or slots number (Free None)

  -- the entries of a leaf
  abbrev pub entries_of : Content K V → List (K × V)
  entries_of (Inner keys children) = []
  entries_of (Leaf keys vals) = zip keys vals
  entries_of (Free next) = []

  -- whether the content is a node
  abbrev pub is_used : Content K V → Bool
  is_used (Inner keys children) = true
  is_used (Leaf keys vals) = true
  is_used (Free next) = false

  -- the numbers of this many levels from these nodes downwards, the leaves first, before those of the levels above
  abbrev pub levels_below : List (Content K V) → ℕ → List ℕ → List (List ℕ) → List (List ℕ)
  levels_below slots zero level above = level ∷ above
  levels_below slots (suc count) level above =
      elim (flat_map (λ number. children_of (slot slots number)) level) [ [] ↦ level ∷ above | first ∷ rest ↦ levels_below slots count (first ∷ rest) (level ∷ above) ]

  -- the number of a node and those of this many levels below it: each before those below it, and those below
  -- later children before those below earlier ones
  abbrev pub numbers_down : List (Content K V) → ℕ → ℕ → List ℕ
  numbers_down slots zero number = number ∷ []
  numbers_down slots (suc levels) number =
      number ∷ flat_map (numbers_down slots levels) (reverse (children_of (slot slots number)))

  -- the row of these leaves
  abbrev pub leaf_row : List (Content K V) → List ℕ → List (LevelNode K V)
  leaf_row slots level = map (λ number. node number (entries_of (slot slots number))) level

  -- the row of these inner nodes, over the nodes of the level below
  abbrev pub inner_row : List (Content K V) → List (K × ℕ) → List ℕ → List (LevelNode K ℕ)
  inner_row slots list [] = []
  inner_row slots list (number ∷ level) =
      node number (take (length (children_of (slot slots number))) list) ∷ inner_row slots (drop (length (children_of (slot slots number))) list) level

  -- the rows of inner nodes over a level, lowest first
  abbrev pub inner_rows : List (Content K V) → List (K × ℕ) → List (List ℕ) → List (List (LevelNode K ℕ))
  inner_rows slots list [] = []
  inner_rows slots list (level ∷ levels) =
      inner_row slots list level ∷ inner_rows slots (heads (inner_row slots list level)) levels

  -- the tree of these levels
  abbrev pub tree_from : List (Content K V) → List (List ℕ) → Tree K V
  tree_from slots [] = record { leaves = []; above = [] }
  tree_from slots (level ∷ levels) =
      record { leaves = leaf_row slots level; above = inner_rows slots (heads (leaf_row slots level)) levels }

  -- the tree under a root
  unfoldable pub tree_of : List (Content K V) → ℕ → Tree K V
  tree_of slots root = tree_from slots (levels_below slots 17 (root ∷ []) [])

  -- a root is a node that no inner node names
  unfoldable pub is_root : List (Content K V) → ℕ → Bool
  is_root slots number = is_used (slot slots number) && nat_eq (count number (flat_map children_of slots)) 0

-- the property holds of every element of the list
abbrev pub Every : {X : Type 0} → (X → Type 0) → List X → Type 0
Every P [] = Unit {0}
Every P (first ∷ rest) = P first × Every P rest

module _ {K V : Type 0} where
  -- the trees of a table, where a leaf has at most `most` entries. Each is fit, not empty, in the table and of a height of at most 17. The
  -- slots of the free list are free, and each slot is in just one of the trees or on the free list
  pub record IsForest (most : ℕ) (table : Table K V) (trees : List (Tree K V)) : Type 0 where
    pub capacity : IsLeafCapacity most
    pub fit : Every (IsFit most) trees
    pub inside : Every (IsIn table.nodes) trees
    pub some : Every (λ (tree : Tree K V). 1 ≤ length (flat tree.leaves)) trees
    pub low : Every (λ (tree : Tree K V). length tree.above ≤ top_level) trees
    pub free : Every (λ (number : ℕ). IsFree (slot table.nodes number)) table.chain
    pub account : (number : ℕ) → count number (flat_map numbers_of trees ++ table.chain) ≡ (if nat_lt number (length table.nodes) then 1 else 0)

  -- the used slots of a table are a disjoint union of trees
  abbrev pub IsUnion : ℕ → Table K V → Type 0
  IsUnion most table = (trees : List (Tree K V)) × IsForest most table trees

  -- every root but this one keeps its tree, and no number but the new one becomes a root
  abbrev pub OthersKeep : List (Content K V) → List (Content K V) → ℕ → ℕ → Type 0
  OthersKeep old new root root' =
      (other : ℕ) → other ≢ root → other ≢ root' → (IsTrue (is_root new other) ↔ IsTrue (is_root old other)) × (IsTrue (is_root old other) → tree_of new other ≡ tree_of old other)
