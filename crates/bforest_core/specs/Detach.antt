-- Detaching what is behind a place, or freeing what is in front of it: the parts that a call below a node of the path leaves, and the left edge
-- of what is behind, whose nodes are filled from their right neighbours.
use Rattle.std.specs.Prelude.{◌≡◌, ◌≢◌, ℕ, ◌*◌, ◌<◌, ◌≤◌, List, [], ◌∷◌, ◌++◌, map, length, drop, slice_get, Some}
use Rattle.bforest_nodes.specs.Content.{Content, first_part, last_part}
use Rattle.bforest_core.specs.Cut.{front_row, front_rows}
use Rattle.bforest_core.specs.Levels.{LevelNode, flat, heads, numbers, sizes}
use Rattle.bforest_core.specs.Packed.{Piled}
use Rattle.bforest_core.specs.Place.{Distinct, RowIn, RowsIn, inner_content, leaf_content}
use Rattle.bforest_core.specs.Removal.{numbers_under}
use Rattle.bforest_core.specs.Sizes.{backs, filled, filled_levels}
use Rattle.bforest_core.specs.Table.{Table}
use Rattle.bforest_core.specs.Trades.{Draws, Frees}
use Rattle.bforest_core.specs.Trees.{Every}

-- the first node of the last of these levels is more than half full, where leaves have at most `most`
abbrev pub IsReady : ℕ → List (List ℕ) → Type 0
IsReady most [] = Unit {0}
IsReady most ([] ∷ []) = Unit {0}
IsReady most ((size ∷ rest) ∷ []) = most < 2 * size
IsReady most (level ∷ next ∷ levels) = IsReady 8 (next ∷ levels)

module _ {K V : Type 0} where
  -- the sizes of leaves and of the rows over them
  abbrev pub row_sizes : List (LevelNode K V) → List (List (LevelNode K ℕ)) → List (List ℕ)
  row_sizes leaves lower = sizes leaves ∷ map sizes lower

  -- the node keeps its first `count` children or entries, and those from an index on are in a node that was the front of the free list
  pub record Severs (old new : Table K V) (node from count : ℕ) (content : Content K V) (behind : ℕ) : Type 0 where
    pub here : slice_get new.nodes node ≡ Some (first_part count content)
    pub there : slice_get new.nodes behind ≡ Some (last_part from content)
    pub draws : Draws old new (node ∷ []) (node ∷ behind ∷ []) (behind ∷ [])

  -- Of these leaves and the rows over them what is behind a place is below a node: the leaves and the rows that are named here.
  pub record IsBehind (table : Table K V) (leaves : List (LevelNode K V)) (lower : List (List (LevelNode K ℕ))) (place behind : ℕ) : Type 0 where
    pub tail : List (LevelNode K V)
    pub above : List (List (LevelNode K ℕ))
    pub first : K
    pub tail_in : RowIn leaf_content table.nodes tail
    pub above_in : RowsIn table.nodes above
    pub tail_is : flat tail ≡ drop place (flat leaves)
    pub piled : Piled (heads tail) above ((first, behind) ∷ [])
    pub sizes_are : row_sizes tail above ≡ backs place (row_sizes leaves lower)

  -- Of these leaves and the rows over them what is in front of a place is left, and what is behind it is below a node of its own. Nodes were
  -- taken from the front of the free list.
  pub record Parts (old new : Table K V) (leaves : List (LevelNode K V)) (lower : List (List (LevelNode K ℕ))) (place behind : ℕ) : Type 0 where
    pub leaves_in : RowIn leaf_content new.nodes (front_row place leaves)
    pub rows_in : RowsIn new.nodes (front_rows (length (front_row place leaves)) lower)
    pub rest : IsBehind new leaves lower place behind
    pub open rest use *
    pub taken : List ℕ
    pub draws : Draws old new (numbers_under leaves lower) (numbers_under (front_row place leaves) (front_rows (length (front_row place leaves)) lower) ++ numbers_under tail above) taken

  -- of these leaves and the rows over them what is behind a place is left, below the node that it was below, and all in front of it is freed
  pub record LeavesBehind (old new : Table K V) (leaves : List (LevelNode K V)) (lower : List (List (LevelNode K ℕ))) (place node : ℕ) : Type 0 where
    pub rest : IsBehind new leaves lower place node
    pub open rest use *
    pub given : List ℕ
    pub frees : Frees old new (numbers_under leaves lower) (numbers_under tail above) given

  -- The node is the first of a level, whose nodes are listed. These leaves and the rows over them are that level and all below, off the free
  -- list, and no node is empty. The node is more than half full, or the only one of its level.
  pub record OnEdge (most : ℕ) (table : Table K V) (level node : ℕ) (leaves : List (LevelNode K V)) (rows : List (List (LevelNode K ℕ))) (first : K) (rest : List (K × ℕ)) : Type 0 where
    pub leaves_in : RowIn leaf_content table.nodes leaves
    pub rows_in : RowsIn table.nodes rows
    pub piled : Piled (heads leaves) rows ((first, node) ∷ rest)
    pub some : Every (Every (λ size. 1 ≤ size)) (row_sizes leaves rows)
    pub ready : rest ≢ [] → IsReady most (row_sizes leaves rows)
    pub height : length rows ≡ level
    pub apart : Distinct (numbers_under leaves rows ++ table.chain)

  -- the first node of each level below such a node was filled from its right neighbour: the entries stay, and nodes were freed
  pub record FillsEdge (most : ℕ) (old new : Table K V) (node : ℕ) (leaves : List (LevelNode K V)) (rows : List (List (LevelNode K ℕ))) (first : K) (rest : List (K × ℕ)) : Type 0 where
    pub leaves' : List (LevelNode K V)
    pub rows' : List (List (LevelNode K ℕ))
    pub leaves_in : RowIn leaf_content new.nodes leaves'
    pub rows_in : RowsIn new.nodes rows'
    pub list_is : flat leaves' ≡ flat leaves
    pub piled : Piled (heads leaves') rows' ((first, node) ∷ rest)
    pub sizes_are : row_sizes leaves' rows' ≡ filled_levels most (row_sizes leaves rows)
    pub freed : List ℕ
    pub frees : Frees old new (numbers_under leaves rows) (numbers_under leaves' rows') freed

  -- The node's children are the nodes of this row, none of which is empty. All are off the free list.
  pub record HasChildren {X : Type 0} (content : List (K × X) → Content K V) (table : Table K V) (node : ℕ) (row : List (LevelNode K X)) : Type 0 where
    pub slot_is : slice_get table.nodes node ≡ Some (inner_content (heads row))
    pub inside : RowIn content table.nodes row
    pub some : Every (λ size. 1 ≤ size) (sizes row)
    pub apart : Distinct ((node ∷ numbers row) ++ table.chain)

  -- the node's first child was filled from the second: what is in its children stays, and a node was freed or none
  pub record FillsChild {X : Type 0} (content : List (K × X) → Content K V) (most : ℕ) (old new : Table K V) (node : ℕ) (row : List (LevelNode K X)) : Type 0 where
    pub row' : List (LevelNode K X)
    pub has : HasChildren content new node row'
    pub list_is : flat row' ≡ flat row
    pub sizes_are : sizes row' ≡ filled most (sizes row)
    pub freed : List ℕ
    pub frees : Frees old new (node ∷ numbers row) (node ∷ numbers row') freed
