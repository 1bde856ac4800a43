-- Steps of a path from node to node.
use Rattle.std.specs.Prelude.{◌≡◌, ℕ, suc, ◌+◌, ◌-◌, ◌≤◌, ◌<◌, List, length, get_or, slice_get, Some}
use Rattle.bforest_nodes.specs.Content.{Content}
use Rattle.bforest_core.specs.Levels.{IsFit, LevelNode, Tree, most_levels}
use Rattle.bforest_core.specs.Place.{IsIn, Stands, StandsAbove, inner_content}
use Rattle.bforest_core.specs.Climb.{Over, SameBelow}

-- the path leads to the node at this place of a level through the rows above; below, and in its index on that
-- level, it is unchanged
pub record Moved {K : Type 0} (path indices path' indices' : List ℕ) (level : ℕ) (rows : List (List (LevelNode K ℕ))) (list : List (K × ℕ))
    (place : ℕ) : Type 0 where
  pub head : K × ℕ
  pub head_is : slice_get list place ≡ Some head
  pub node_is : get_or path' level 0 ≡ head.1
  pub stands : StandsAbove path' indices' (suc level) rows place
  pub nodes_below : SameBelow level path path'
  pub entries_below : SameBelow (suc level) indices indices'

-- on this level the path's child is the first of its node
abbrev pub FirstAt : List ℕ → ℕ → Type 0
FirstAt indices level = get_or indices level 0 ≡ 0

-- something holds on each level from one on and below another
abbrev pub OnLevels : (ℕ → Type 0) → ℕ → ℕ → Type 0
OnLevels Holds low high = (level : ℕ) → low ≤ level → level < high → Holds level

abbrev pub AreFirst : List ℕ → ℕ → ℕ → Type 0
AreFirst indices = OnLevels (FirstAt indices)

-- the path's node on level `from` moved; on each level below it, down to a level, and on its own the path's child was at an end of its node
pub record TurnedBy (AtEnd Moves : ℕ → Type 0) (level from size : ℕ) : Type 0 where
  pub height : size ≤ most_levels
  pub within : from < size
  pub ends : OnLevels AtEnd (suc level) (suc from)
  pub moved : Moves from

-- the path stands on an entry of a tree that fits and lies in the slots
pub record OnTree {K V : Type 0} (most : ℕ) (slots : List (Content K V)) (path indices : List ℕ) (size : ℕ) : Type 0 where
  pub tree : Tree K V
  pub place : ℕ
  pub fit : IsFit most tree
  pub inside : IsIn slots tree
  pub stands : Stands path indices size tree place
  pub open stands use *

module _ {K V : Type 0} (slots : List (Content K V)) (path indices : List ℕ) where
  -- some rows from a level up are over the path
  abbrev pub HasOver : ℕ → ℕ → Type 0
  HasOver level size = (rows : List (List (LevelNode K ℕ))) × (list : List (K × ℕ)) × (place : ℕ) × Over slots path indices level size rows list place

  -- what is said of the rows from a level up, whichever they are
  abbrev pub OnOver : ℕ → ℕ → (List (List (LevelNode K ℕ)) → List (K × ℕ) → ℕ → Type 0) → Type 0
  OnOver level size Said =
      (rows : List (List (LevelNode K ℕ))) (list : List (K × ℕ)) (place : ℕ) → Over slots path indices level size rows list place → Said rows list place

  -- on this level the path's node has a child behind the path's, or none
  abbrev pub MoreAt : ℕ → Type 0
  MoreAt level = (entries : List (K × ℕ)) → slice_get slots (get_or path level 0) ≡ Some (inner_content entries) → get_or indices level 0 + 1 < length entries

  abbrev pub LastAt : ℕ → Type 0
  LastAt level = (entries : List (K × ℕ)) → slice_get slots (get_or path level 0) ≡ Some (inner_content entries) → length entries ≤ get_or indices level 0 + 1

  abbrev pub AreLast : ℕ → ℕ → Type 0
  AreLast = OnLevels LastAt

  module _ (path' indices' : List ℕ) where
    -- whatever rows are above it, the path's node on this level moved to the next one
    abbrev pub Advances : ℕ → ℕ → Type 0
    Advances level size = OnOver (suc level) size (λ rows list place. Moved path indices path' indices' level rows list (suc place))

    abbrev pub Turned : ℕ → ℕ → ℕ → Type 0
    Turned level from size = TurnedBy LastAt (λ at. Advances at size) level from size

    -- whatever rows are above it, the path's node on this level moved to the previous one
    abbrev pub Retreats : ℕ → ℕ → Type 0
    Retreats level size = OnOver (suc level) size (λ rows list place. (0 < place) × Moved path indices path' indices' level rows list (place - 1))

    abbrev pub TurnedBack : ℕ → ℕ → ℕ → Type 0
    TurnedBack level from size = TurnedBy (FirstAt indices) (λ at. Retreats at size) level from size
