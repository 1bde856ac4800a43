-- Cutting a tree at a place: what is in front of it on each level, and what a call below a node of the path leaves.
use Rattle.std.specs.Prelude.{◌≡◌, ℕ, zero, suc, ◌+◌, ◌-◌, ◌≤◌, nat_lt, if◌then◌else◌, Some, slice_get, List, [], ◌∷◌, ◌++◌, length, take, get_or}
use Rattle.bforest_core.specs.Descent.{StandsTo, Under}
use Rattle.bforest_core.specs.Levels.{LevelNode, node, top_level}
use Rattle.bforest_core.specs.Place.{Distinct, IsAt, RowIn, RowsIn, count, inner_content, leaf_content}
use Rattle.bforest_core.specs.Removal.{numbers_under}
use Rattle.bforest_core.specs.Table.{Table}
use Rattle.bforest_core.specs.Trades.{Frees}

-- the first nodes of a row, which hold so many entries together: the last keeps what is left for it
abbrev pub front_row : {K X : Type 0} → ℕ → List (LevelNode K X) → List (LevelNode K X)
front_row zero row = []
front_row (suc kept) [] = []
front_row (suc kept) (node number entries ∷ after) =
    if nat_lt (length entries) (suc kept) then node number entries ∷ front_row (suc kept - length entries) after else node number (take (suc kept) entries) ∷ []

-- the rows over the first nodes of a level, so many
abbrev pub front_rows : {K : Type 0} → ℕ → List (List (LevelNode K ℕ)) → List (List (LevelNode K ℕ))
front_rows kept [] = []
front_rows kept (row ∷ rows) = front_row kept row ∷ front_rows (length (front_row kept row)) rows

module _ {K V : Type 0} where
  -- the path leads from a node of this level down to the entry at this place of the leaves below it, off the free list
  pub record OnBranch (most : ℕ) (table : Table K V) (path indices : List ℕ) (level number : ℕ) (leaves : List (LevelNode K V)) (lower : List (List (LevelNode K ℕ))) (place : ℕ) : Type 0 where
    pub first : K
    pub under : Under most table.nodes leaves lower ((first, number) ∷ [])
    pub leaf : IsAt leaves (get_or path 0 0) (get_or indices 0 0) place
    pub up : StandsTo path indices 1 lower (length leaf.before) 0
    pub height : length lower ≡ level
    pub apart : Distinct (numbers_under leaves lower ++ table.chain)

  -- a node has these children, `top`, from an index on up to another, and these leaves and rows are below them, off the free list
  pub record Between (most : ℕ) (table : Table K V) (number from to : ℕ) (leaves : List (LevelNode K V)) (lower : List (List (LevelNode K ℕ))) (top : List (K × ℕ)) : Type 0 where
    pub before : List (K × ℕ)
    pub after : List (K × ℕ)
    pub slot_is : slice_get table.nodes number ≡ Some (inner_content (before ++ (top ++ after)))
    pub from_is : length before ≡ from
    pub to_is : from + length top ≡ to
    pub under : Under most table.nodes leaves lower top
    pub low : length lower ≤ top_level
    pub outside : count number (numbers_under leaves lower) ≡ 0
    pub apart : Distinct (numbers_under leaves lower ++ table.chain)

  -- of these leaves and the rows over them what is in front of a place is left, and all behind it is freed
  pub record LeavesFront (old new : Table K V) (leaves : List (LevelNode K V)) (lower : List (List (LevelNode K ℕ))) (place : ℕ) : Type 0 where
    pub leaves_in : RowIn leaf_content new.nodes (front_row place leaves)
    pub rows_in : RowsIn new.nodes (front_rows (length (front_row place leaves)) lower)
    pub given : List ℕ
    pub frees : Frees old new (numbers_under leaves lower) (numbers_under (front_row place leaves) (front_rows (length (front_row place leaves)) lower)) given
