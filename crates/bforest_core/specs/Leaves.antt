-- The leaf of a tree in which a search for a key ends: its path, its spot, what it tells of the whole tree, and what looking the key up
-- there, putting a value in, and removing the key, returns and leaves.
use Rattle.std.specs.Prelude.{◌≡◌, ℕ, ◌+◌, ◌<◌, ◌≤◌, IsTrue, true, false, if◌then◌else◌, List, [], ◌∷◌, ◌++◌, length, get_or, insert, slice_get, slice_set, Option, Some, None, Result, Ok, Err, IfOk, IfSome, option_map}
use Rattle.std.specs.declared.cmp.Ordering.{Ordering}
use Rattle.bforest_nodes.specs.Content.{Content}
use Rattle.bforest_nodes.specs.Entries.{IsIncreasing, is_present, place, value_for, with_value}
use Rattle.bforest_core.specs.Change.{Changes, EntryTaken, PlacedUnder, StandsUnder, TakesNodes}
use Rattle.bforest_core.specs.Levels.{LevelNode, flat, most_levels, node, sizes_of}
use Rattle.bforest_core.specs.Place.{IsAt, entry_before, leaf_content}
use Rattle.bforest_core.specs.Sizes.{growth, need}
use Rattle.bforest_core.specs.Spots.{IsLeafAt, IsSpotAt, IsWay, leaf_place}
use Rattle.bforest_core.specs.Table.{Table, slot_count}
use Rattle.bforest_core.specs.Trees.{is_root, tree_of}
use Rattle.bforest_core.specs.declared.spot.Spot.{Spot}

module _ {K V : Type 0} (cmp : K → K → Ordering) (table : Table K V) (root : ℕ) (key : K) where
  -- the list of the tree under the root
  abbrev list : List (K × V)
  list = flat (tree_of table.nodes root).leaves

  -- the sizes of its nodes
  abbrev shape : List (List ℕ)
  shape = sizes_of (tree_of table.nodes root)

  -- a search for the key under the root ends in this leaf. With the key's place in the leaf as its index
  -- there, a path of these nodes and indices is at the key's place
  pub record EndsIn (leaf : ℕ) (path indices : List ℕ) (size : ℕ) : Type 0 where
    pub root_is : IsTrue (is_root table.nodes root)
    pub leaf_is : get_or path 0 0 ≡ leaf
    pub entries : List (K × V)
    pub slot_is : slice_get table.nodes leaf ≡ Some (leaf_content entries)
    pub increasing : IsIncreasing cmp entries
    pub value_is : value_for cmp list key ≡ value_for cmp entries key
    pub found_is : is_present cmp list key ≡ is_present cmp entries key
    pub wide : length path ≡ most_levels
    pub indexed : 0 < length indices
    pub present : is_present cmp list key ≡ true → StandsUnder table.nodes root path (slice_set indices 0 (place cmp entries key)) size (place cmp list key)
    pub absent : is_present cmp list key ≡ false → PlacedUnder table.nodes root path (slice_set indices 0 (place cmp entries key)) size (place cmp list key)

  -- the leaf of such a path was searched for the key: its place there is returned, and its value, or nothing where the key is absent
  pub record LooksInLeaf (leaf : ℕ) (path indices : List ℕ) (size : ℕ) (result : ℕ × Option V) : Type 0 where
    pub value : result.1 ≡ value_for cmp list key
    pub present : is_present cmp list key ≡ true → IsAt (tree_of table.nodes root).leaves leaf result.0 (place cmp list key)
    pub absent : is_present cmp list key ≡ false → PlacedUnder table.nodes root path (slice_set indices 0 result.0) size (place cmp list key)

  -- a value was put in at the key, in the leaf of such a path, where a leaf has at most `most` entries; or the
  -- leaf is full, and nothing changed
  pub record PutsInLeaf (most : ℕ) (value : V) (path indices : List ℕ) (size : ℕ) (result : Result (Option V) ℕ) (new : Table K V) : Type 0 where
    pub ok : IfOk result (λ old. old ≡ value_for cmp list key)
    pub slots : slot_count new ≡ slot_count table
    pub chain : new.chain ≡ table.chain
    pub memory : new.memory ≡ table.memory
    pub written : (old : V) → result ≡ Ok (Some old) → Changes most table new root root (with_value list (place cmp list key) value) shape
    pub inserted : result ≡ Ok None → Changes most table new root root (insert list (place cmp list key) (key, value)) (growth most (place cmp list key) shape)
    pub takes : result ≡ Ok None → TakesNodes (need most (place cmp list key) shape) table new
    pub room : result ≡ Ok None → need most (place cmp list key) shape ≡ 0
    pub levels : result ≡ Ok None → length (growth most (place cmp list key) shape) ≡ length shape
    pub full : (index : ℕ) → result ≡ Err index → value_for cmp list key ≡ None
    pub placed : (index : ℕ) → result ≡ Err index → PlacedUnder table.nodes root path (slice_set indices 0 index) size (place cmp list key)
    pub refused : (index : ℕ) → result ≡ Err index → new ≡ table

  -- the key was removed from the leaf of such a path; its index there and its value are returned
  pub record TakesFromLeaf (most : ℕ) (path indices : List ℕ) (size : ℕ) (result : Option (ℕ × V)) (new : Table K V) : Type 0 where
    pub value : option_map (λ e. e.1) result ≡ value_for cmp list key
    pub taken : IfSome result (λ e. EntryTaken most table new root (place cmp list key) path (slice_set indices 0 e.0) size)
    pub absent : result ≡ None → new ≡ table

module _ {K V : Type 0} (cmp : K → K → Ordering) where
  -- the last entry up to a key: the one whose key compares equal, or the one before the key's place, if there is one
  abbrev pub entry_up_to : List (K × V) → K → Option (K × V)
  entry_up_to es key = if is_present cmp es key then slice_get es (place cmp es key) else entry_before es (place cmp es key)

  -- what a search for the key among all leaves tells, a search among these entries tells: those of the leaf that stands behind `before`. An
  -- absent key's place is in front of all of them in the first leaf alone
  pub record Narrows (leaves : List (LevelNode K V)) (key : K) (before : List (LevelNode K V)) (entries : List (K × V)) : Type 0 where
    pub increasing : IsIncreasing cmp entries
    pub place_is : place cmp (flat leaves) key ≡ length (flat before) + place cmp entries key
    pub value_is : value_for cmp (flat leaves) key ≡ value_for cmp entries key
    pub found_is : is_present cmp (flat leaves) key ≡ is_present cmp entries key
    pub first : is_present cmp (flat leaves) key ≡ false → place cmp entries key ≡ 0 → before ≡ []

  -- a search for the key in the tree under a root ends in the leaf with this number, which stands at this place among the leaves
  pub record SearchEndsAt (table : Table K V) (root : ℕ) (key : K) (at number : ℕ) : Type 0 where
    pub leaf : IsLeafAt table root at number
    pub tells : Narrows (tree_of table.nodes root).leaves key leaf.before leaf.entries

  -- a search for the key in the tree under a root ends in the leaf with this number, and this is the leaf's spot
  pub record SearchSpot (table : Table K V) (root : ℕ) (key : K) (spot : Spot) (number : ℕ) : Type 0 where
    pub spot_at : IsSpotAt table root spot (leaf_place table root spot)
    pub search : SearchEndsAt table root key (leaf_place table root spot) number
    pub open search use *

  -- a search for the key among these leaves, which lie in the slots, ends in the leaf with this number, and the spot is that of the leaf
  -- below these rows
  pub record EndsOn (slots : List (Content K V)) (leaves : List (LevelNode K V)) (rows : List (List (LevelNode K ℕ))) (key : K) (spot : Spot) (number : ℕ) : Type 0 where
    pub before : List (LevelNode K V)
    pub entries : List (K × V)
    pub after : List (LevelNode K V)
    pub leaves_are : leaves ≡ before ++ node number entries ∷ after
    pub slot_is : slice_get slots number ≡ Some (leaf_content entries)
    pub some : 1 ≤ length entries
    pub tells : Narrows leaves key before entries
    pub numbers : List ℕ
    pub way : IsWay numbers spot rows (length before)
