-- The way from a root down to a leaf in one word, the path that goes it, and what an insertion and a removal at its leaf return and leave.
use Rattle.std.specs.Prelude.{Bool, ◌≡◌, ℕ, suc, ◌<◌, ◌≤◌, ◌/◌, ◌%◌, ◌*◌, ◌^◌, ◌↔◌, List, length, get_or, insert, slice_get, Option, Some, Result, Err, IfOk, IsOk, OnErr, OnOk}
use Rattle.std.specs.declared.cmp.Ordering.{Ordering}
use Rattle.bforest_nodes.specs.Content.{Content, IsLeafCapacity, entry_count}
use Rattle.bforest_core.specs.Change.{Changes, EntryTaken, PlacedUnder, Shrinks, StandsUnder, TakesNodes}
use Rattle.bforest_core.specs.Climb.{LeafHalved, Over, Placed, SameBelow}
use Rattle.bforest_core.specs.Descent.{SameAbove}
use Rattle.bforest_core.specs.Leaves.{EndsIn}
use Rattle.bforest_core.specs.Levels.{LevelNode, Tree, half_of, most_levels}
use Rattle.bforest_core.specs.Paths.{list_under, sizes_under}
use Rattle.bforest_core.specs.Place.{root_above}
use Rattle.bforest_core.specs.Removal.{Unbalanced}
use Rattle.bforest_core.specs.Sizes.{growth, need}
use Rattle.bforest_core.specs.Spots.{NumberAt}
use Rattle.bforest_core.specs.Table.{NeedsGrowth, Table, free_count, room}
use Rattle.bforest_core.specs.declared.path.way.Way.{Way}
use Rattle.bforest_core.specs.declared.pool.OutOfMemory.{OutOfMemory}
use Rattle.bforest_core.specs.declared.pool.OutOfMemory.TheVariants.{Full, Memory}

-- a path of these nodes and indices, with so many levels, goes the way: from the leaf's parent up, its indices are the octal digits of the
-- code, the last digit first. Its index in the leaf may be any
pub record Follows (way : Way) (path indices : List ℕ) (size : ℕ) : Type 0 where
  pub wide : length path ≡ most_levels
  pub indexed : length indices ≡ most_levels
  pub leaf_is : get_or path 0 0 ≡ way.leaf
  pub parent_is : 0 < way.height → get_or path 1 0 ≡ way.parent
  pub digits : (level : ℕ) → level < way.height → get_or indices (suc level) 0 ≡ way.code / 2 ^ (3 * level) % 8
  pub alone : way.height ≡ 0 → (way.code ≡ 0) × (way.parent ≡ way.leaf)
  pub size_is : size ≡ suc way.height
  pub low : way.height ≤ 16

-- the path goes up from its leaf, which is a node of a level, through rows that lie in the slots, to the root
pub record LeadsUp {K V : Type 0} (slots : List (Content K V)) (root : ℕ) (path indices : List ℕ) (size : ℕ) : Type 0 where
  pub rows : List (List (LevelNode K ℕ))
  pub list : List (K × ℕ)
  pub place : ℕ
  pub over : Over slots path indices 1 size rows list place
  pub leaf : NumberAt list place (get_or path 0 0)
  pub root_is : root_above list rows ≡ root

-- a path has the nodes of another one, and its indices, but for this one in the leaf
pub record Retraces (path indices : List ℕ) (size index : ℕ) (path' indices' : List ℕ) (size' : ℕ) : Type 0 where
  pub nodes : SameBelow size path path'
  pub entries : (level : ℕ) → 0 < level → level < size → get_or indices' level 0 ≡ get_or indices level 0
  pub index_is : get_or indices' 0 0 ≡ index
  pub size_is : size' ≡ size

module _ {K V : Type 0} where
  -- a search for the key under the root ends in the leaf of the way
  pub record EndsOnWay (cmp : K → K → Ordering) (table : Table K V) (root : ℕ) (key : K) (way : Way) : Type 0 where
    pub path : List ℕ
    pub indices : List ℕ
    pub size : ℕ
    pub follows : Follows way path indices size
    pub ends : EndsIn cmp table root key way.leaf path indices size

  -- an entry may be inserted at this place of the list under the root, at an index of the leaf of the way
  pub record PlacedOn (table : Table K V) (root : ℕ) (way : Way) (index place : ℕ) : Type 0 where
    pub path : List ℕ
    pub indices : List ℕ
    pub size : ℕ
    pub follows : Follows way path indices size
    pub index_is : get_or indices 0 0 ≡ index
    pub placed : PlacedUnder table.nodes root path indices size place

  -- the entry at an index of the leaf of the way is at this place of the list under the root
  pub record OnWay (table : Table K V) (root : ℕ) (way : Way) (index place : ℕ) : Type 0 where
    pub path : List ℕ
    pub indices : List ℕ
    pub size : ℕ
    pub follows : Follows way path indices size
    pub index_is : get_or indices 0 0 ≡ index
    pub stands : StandsUnder table.nodes root path indices size place

  -- the way leads to a leaf of a fit tree, where an entry may be inserted at this place of the tree's list, at an index of the leaf
  pub record PlacedIn (most : ℕ) (table : Table K V) (way : Way) (index : ℕ) (tree : Tree K V) (place : ℕ) : Type 0 where
    pub path : List ℕ
    pub indices : List ℕ
    pub size : ℕ
    pub follows : Follows way path indices size
    pub index_is : get_or indices 0 0 ≡ index
    pub placed : Placed most table path indices size tree place

  -- the full leaf of a path was split, and the entry inserted into one half: the right one has this first key and this number
  pub record HalvedOn (most : ℕ) (old new : Table K V) (path indices : List ℕ) (size : ℕ) (tree : Tree K V) (place : ℕ) (entry : K × V) (first : K) (right : ℕ) : Type 0 where
    pub path' : List ℕ
    pub indices' : List ℕ
    pub moved : Bool
    pub halved : LeafHalved most old new path indices path' indices' size tree place entry first right moved
    pub wide : length path' ≡ length path
    pub indexed : length indices' ≡ length indices
    pub entries_above : SameAbove 0 indices indices'

  -- the leaf of the way lost the entry at an index, which stood at this place of the list under the root
  pub record TakenOn (most : ℕ) (old new : Table K V) (root : ℕ) (way : Way) (index place : ℕ) : Type 0 where
    pub path : List ℕ
    pub indices : List ℕ
    pub size : ℕ
    pub follows : Follows way path indices size
    pub index_is : get_or indices 0 0 ≡ index
    pub taken : EntryTaken most old new root place path indices size

  -- a node, if it is used, has so many entries or children
  abbrev pub CountsAt : Table K V → ℕ → ℕ → Type 0
  CountsAt table number count = (content : Content K V) → slice_get table.nodes number ≡ Some content → count ≡ entry_count content

  -- the leaf of a way lost an entry and has too few, and the rows above have its first key. It is not the last child of its parent, which
  -- is the root or has more than 4
  pub record ShortOn (most : ℕ) (table : Table K V) (root : ℕ) (way : Way) : Type 0 where
    pub path : List ℕ
    pub indices : List ℕ
    pub size : ℕ
    pub follows : Follows way path indices size
    pub capacity : IsLeafCapacity most
    pub unbalanced : Unbalanced most table path indices size root
    pub short : length unbalanced.lost.entries < half_of most
    pub high : 0 < way.height
    pub children : (content : Content K V) → slice_get table.nodes way.parent ≡ Some content → (1 < way.height → 4 < entry_count content) × (suc (way.code % 8) < entry_count content)

  -- the tree lost that entry; the freed nodes are those of a path that goes the way
  pub record ShrinksOn (most : ℕ) (old new : Table K V) (root place : ℕ) (path : List ℕ) (size : ℕ) (result : Option ℕ) : Type 0 where
    pub nodes : List ℕ
    pub same : SameBelow size path nodes
    pub shrinks : Shrinks most old new nodes root place result

  -- the entry is in the list under the root, at this place, and the nodes that this takes are off the free list; or the table is as before,
  -- and memory or the limit is too small
  pub record InsertsAt (most : ℕ) (old new : Table K V) (root place : ℕ) (key : K) (value : V) (result : Result ℕ OutOfMemory) : Type 0 where
    pub inserted : IfOk result (λ root'. Changes most old new root root' (insert (list_under old root) place (key, value)) (growth most place (sizes_under old root)))
    pub account : OnOk result (TakesNodes (need most place (sizes_under old root)) old new)
    pub same_root : IfOk result (λ root'. (root' ≡ root) ↔ (length (growth most place (sizes_under old root)) ≡ length (sizes_under old root)))
    pub full : (result ≡ Err Full) ↔ (room old < need most place (sizes_under old root))
    pub memory : result ≡ Err Memory → NeedsGrowth (need most place (sizes_under old root)) old
    pub enough : need most place (sizes_under old root) ≤ free_count old → IsOk result
    pub refused : OnErr result (new ≡ old)
