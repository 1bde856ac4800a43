-- Where a look stands in the list of a handle. No public clause of a forest cites this module.
use Rattle.bforest_core.specs.Levels.{flat}
use Rattle.bforest_core.specs.Place.{entry_items, entry_keys}
use Rattle.bforest_core.specs.Spots.{HasNoParent, IsLeafAt, IsSpotAt, leaf_place}
use Rattle.bforest_core.specs.Table.{Table}
use Rattle.bforest_core.specs.Trees.{tree_of}
use Rattle.bforest_core.specs.declared.spot.Spot.{Spot}
use Rattle.bforest_trees.specs.Forest.{IsLive, list_of}
use Rattle.bforest_trees.specs.declared.look.Look.{Look}
use Rattle.std.proofs.Math.Logic.{◌⊎◌}
use Rattle.std.specs.Prelude.{List, None, Option, Some, [], length, reverse, take, ◌+◌, ◌<◌, ◌∷◌, ◌≡◌, ◌≤◌, ℕ}

module _ {K X : Type 0} where
  -- how many entries are in front of the leaf at this place of the leaves of the tree under a root
  abbrev pub start_of : Table K X → ℕ → ℕ → ℕ
  start_of table root leaf = length (flat (take leaf (tree_of table.nodes root).leaves))

  -- the spot is that of the leaf with this number in the tree of a handle, and the leaf's first entry is at `start` in the handle's list
  pub record LeafFrom (table : Table K X) (handle : Option ℕ) (spot : Spot) (number start : ℕ) : Type 0 where
    pub root : ℕ
    pub handle_is : handle ≡ Some root
    pub place : ℕ
    pub on : IsSpotAt table root spot place
    pub leaf : IsLeafAt table root place number
    pub start_is : start ≡ start_of table root place

  -- the same of a leaf whose last entry is in front of this place
  pub record LeafUpTo (table : Table K X) (handle : Option ℕ) (spot : Spot) (number place : ℕ) : Type 0 where
    pub start : ℕ
    pub from : LeafFrom table handle spot number start
    pub place_is : place ≡ start + length from.leaf.entries

  -- a look holds the keys and the values of the leaf of its spot, whose first entry is at `start` in the handle's list
  pub record Holds (table : Table K X) (handle : Option ℕ) (look : Look K X) (start : ℕ) : Type 0 where
    pub number : ℕ
    pub from : LeafFrom table handle look.spot number start
    pub keys : look.keys.now ≡ entry_keys from.leaf.entries
    pub vals : look.vals.now ≡ entry_items from.leaf.entries

  -- this place of the handle's list is at an index in the leaf that a look holds, or behind the leaf's entries
  pub record HoldsPlace (table : Table K X) (handle : Option ℕ) (look : Look K X) (index place : ℕ) : Type 0 where
    pub start : ℕ
    pub holds : Holds table handle look start
    pub within : index ≤ length look.keys.now
    pub place_is : place ≡ start + index

  -- a look has no leaf, and so no entries
  pub record HasNoLeaf (look : Look K X) : Type 0 where
    pub keys : look.keys.now ≡ []
    pub vals : look.vals.now ≡ []
    pub index : look.index ≡ 0
    pub spot : HasNoParent look.spot
    pub code : look.spot.code ≡ 0

  -- a look holds as many values as keys
  abbrev pub IsPaired : Look K X → Type 0
  IsPaired look = length look.keys.now ≡ length look.vals.now

  module _ (table : Table K X) (handle : Option ℕ) (look : Look K X) where
    -- the look stands on the entry at this place of the handle's list, which is in the leaf that it holds
    pub record IsOnEntry (place : ℕ) : Type 0 where
      pub start : ℕ
      pub holds : Holds table handle look start
      pub within : look.index < length look.keys.now
      pub place_is : place ≡ start + look.index

    -- this place is the list's length, and the look is at the end
    pub record IsAtLength (place : ℕ) : Type 0 where
      pub none : HasNoLeaf look
      pub place_is : place ≡ length (list_of table handle)

    -- the look stands at this place of the handle's list, on an entry or at the end
    abbrev pub IsLook : ℕ → Type 0
    IsLook place = IsOnEntry place ⊎ IsAtLength place

    -- this place of the handle's list is behind the entries of the leaf that the look holds
    pub record IsPastLeaf (place : ℕ) : Type 0 where
      pub start : ℕ
      pub holds : Holds table handle look start
      pub place_is : place ≡ start + length look.keys.now

    -- the same, or the look is at the end, and so is the place
    abbrev pub IsBehind : ℕ → Type 0
    IsBehind place = IsPastLeaf place ⊎ IsAtLength place

    -- the place where a look stands
    pub record AtLook : Type 0 where
      pub place : ℕ
      pub is : IsLook place

  -- the place where a look stands, from the place of its leaf, its index there, and the keys that it holds
  abbrev pub place_held : Table K X → Option ℕ → Spot → ℕ → List K → ℕ
  place_held table handle spot index [] = length (list_of table handle)
  place_held table None spot index (first ∷ keys) = 0
  place_held table (Some root) spot index (first ∷ keys) = start_of table root (leaf_place table root spot) + index

  -- the place where a look stands in the list of a handle
  abbrev pub look_place : Table K X → Option ℕ → Look K X → ℕ
  look_place table handle look = place_held table handle look.spot look.index look.keys.now

  -- the entries in front of a look, from the last to the first
  unfoldable pub left_before : Table K X → Option ℕ → Look K X → List (K × X)
  left_before table handle look = reverse (take (look_place table handle look) (list_of table handle))

  -- a look stands in the list of a live handle
  pub record LooksBack (table : Table K X) (handle : Option ℕ) (look : Look K X) : Type 0 where
    pub live : IsLive table handle
    pub stands : IsLook table handle look (look_place table handle look)
