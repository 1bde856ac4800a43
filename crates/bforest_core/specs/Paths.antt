-- Where a path stands in a pool, in the terms of its public calls; contracts read a path only through these.
use Rattle.std.specs.Prelude.{true, false, ◌≡◌, ◌≢◌, ℕ, List, Option, Some, None, IfSome, Result, Err, IfOk, IsOk, OnOk, OnErr, drop, take, insert, remove, length, get_or, slice_get, if◌then◌else◌, ◌==◌, ◌+◌, ◌++◌, ◌∷◌, [], nat_eq, ◌<◌, ◌≤◌, ◌↔◌}
use Rattle.bforest_core.specs.Change.{AtUnder, Changes, CutsFront, Divides, Ends, EntryTaken, GivesInOrder, GivesNodes, PlacedUnder, PointsUnder, StandsUnder, TakesNodes}
use Rattle.bforest_core.specs.Climb.{top_of}
use Rattle.bforest_core.specs.Levels.{LevelNode, flat, node, sizes_of}
use Rattle.bforest_core.specs.Place.{count, leaf_content}
use Rattle.bforest_core.specs.Sizes.{growth, need, shrink, truncated, without_next}
use Rattle.bforest_core.specs.Table.{NeedsGrowth, Table, free_count, room}
use Rattle.bforest_core.specs.Trees.{tree_of}
use Rattle.bforest_nodes.specs.Entries.{is_present, place, value_for}
use Rattle.bforest_core.specs.declared.path.Path.{Path}
use Rattle.std.specs.declared.cmp.Ordering.{Ordering}
use Rattle.std.specs.declared.cmp.Ordering.TheVariants.{Greater}
use Rattle.bforest_core.specs.declared.pool.OutOfMemory.{OutOfMemory}
use Rattle.bforest_core.specs.declared.pool.OutOfMemory.TheVariants.{Full, Memory}

module _ {K V : Type 0} where
  -- the list of the tree under a root
  abbrev pub list_under : Table K V → ℕ → List (K × V)
  list_under table root = flat (tree_of table.nodes root).leaves

  -- the sizes of the nodes of the tree under a root, level by level, the leaves first
  abbrev pub sizes_under : Table K V → ℕ → List (List ℕ)
  sizes_under table root = sizes_of (tree_of table.nodes root)

  -- the number of a path's leaf
  abbrev pub leaf_of : {n : ℕ} → Path K V n → ℕ
  leaf_of path = get_or path.node 0 0

  -- the index of a path in its leaf
  abbrev pub index_of : {n : ℕ} → Path K V n → ℕ
  index_of path = get_or path.entry 0 0

  -- the root of a path's tree
  abbrev pub path_root : {n : ℕ} → Path K V n → ℕ
  path_root path = top_of path.node path.size

  -- the nodes of a path, the leaf first
  abbrev pub nodes_of : {n : ℕ} → Path K V n → List ℕ
  nodes_of path = path.node

  -- the path is at the end, with no node
  abbrev pub IsAtEnd : {n : ℕ} → Path K V n → Type 0
  IsAtEnd path = path.size ≡ 0

  -- the path stands on the entry at this place of the list under a root
  abbrev pub StandsOn : {n : ℕ} → Table K V → ℕ → Path K V n → ℕ → Type 0
  StandsOn table root path place = StandsUnder table.nodes root path.node path.entry path.size place

  -- the path stands on the entry at this place of the list under a root, or at the end, whose place is the
  -- list's length
  abbrev pub StandsAt : {n : ℕ} → Table K V → ℕ → Path K V n → ℕ → Type 0
  StandsAt table root path place = AtUnder table.nodes root path.node path.entry path.size place

  -- the path is in a leaf under the root, where an entry may be inserted at this place: after an entry of the
  -- leaf, or before the first leaf
  abbrev pub IsPlaced : {n : ℕ} → Table K V → ℕ → Path K V n → ℕ → Type 0
  IsPlaced table root path place = PlacedUnder table.nodes root path.node path.entry path.size place

  -- the path is on the entry at this place, or past the last entry of the leaf before this place
  abbrev pub PointsTo : {n : ℕ} → Table K V → ℕ → Path K V n → ℕ → Type 0
  PointsTo table root path place = PointsUnder table.nodes root path.node path.entry path.size place

  -- the path stood on the entry at this place of the list under a root, and its leaf lost that entry
  abbrev pub LeafLost : {n : ℕ} → Table K V → Table K V → ℕ → ℕ → Path K V n → Type 0
  LeafLost {n} old new root place path = EntryTaken n old new root place path.node path.entry path.size

  -- the root and the place of the entry on which a path stands
  pub record OnEntry {n : ℕ} (table : Table K V) (path : Path K V n) : Type 0 where
    pub root : ℕ
    pub place : ℕ
    pub on : StandsOn table root path place

  -- the root and the place where a path stands, which may be the end
  pub record Standing {n : ℕ} (table : Table K V) (path : Path K V n) : Type 0 where
    pub root : ℕ
    pub place : ℕ
    pub at : StandsAt table root path place

  -- the place where a path stands under this root, which may be the end
  pub record StandingUnder {n : ℕ} (table : Table K V) (root : ℕ) (path : Path K V n) : Type 0 where
    pub place : ℕ
    pub at : StandsAt table root path place

  -- the path stands on an entry under this root, whose key is less than this one
  pub record StandsBefore {n : ℕ} (cmp : K → K → Ordering) (table : Table K V) (root : ℕ) (path : Path K V n) (key : K) : Type 0 where
    pub place : ℕ
    pub on : StandsOn table root path place
    pub less : IfSome (slice_get (list_under table root) place) (λ entry. cmp key entry.0 ≡ Greater)

  -- What a search for a key under a root returns, and where the path is then: on the key's entry or, where the key is absent, where an entry
  -- may be inserted at its place
  pub record GoesTo {n : ℕ} (cmp : K → K → Ordering) (table : Table K V) (root : ℕ) (key : K) (result : Option V) (path' : Path K V n) : Type 0 where
    pub value : result ≡ value_for cmp (list_under table root) key
    pub present : is_present cmp (list_under table root) key ≡ true → StandsOn table root path' (place cmp (list_under table root) key)
    pub absent : is_present cmp (list_under table root) key ≡ false → IsPlaced table root path' (place cmp (list_under table root) key)

  -- the root and the place where an entry may be inserted at a path
  pub record Placing {n : ℕ} (table : Table K V) (path : Path K V n) : Type 0 where
    pub root : ℕ
    pub place : ℕ
    pub placed : IsPlaced table root path place

  -- the root and the place to which a path points
  pub record Pointing {n : ℕ} (table : Table K V) (path : Path K V n) : Type 0 where
    pub root : ℕ
    pub place : ℕ
    pub to : PointsTo table root path place

  -- What an insertion at a path returns and leaves, at each place where the path stands. The entry is in the list and the nodes that this
  -- takes are off the free list, or both the table and the path are as before, and memory or the limit is too small
  pub record InsertsHere {n : ℕ} (old new : Table K V) (path path' : Path K V n) (key : K) (value : V) (result : Result ℕ OutOfMemory) : Type 0 where
    pub inserted : (at : Placing old path) → IfOk result (λ root'. Changes n old new at.root root' (insert (list_under old at.root) at.place (key, value)) (growth n at.place (sizes_under old at.root)))
    pub account : (at : Placing old path) → OnOk result (TakesNodes (need n at.place (sizes_under old at.root)) old new)
    pub stands : (at : Placing old path) → IfOk result (λ root'. StandsOn new root' path' at.place)
    pub same_root : (at : Placing old path) → IfOk result (λ root'. (root' ≡ at.root) ↔ (length (growth n at.place (sizes_under old at.root)) ≡ length (sizes_under old at.root)))
    pub full : (at : Placing old path) → (result ≡ Err Full) ↔ (room old < need n at.place (sizes_under old at.root))
    pub memory : (at : Placing old path) → result ≡ Err Memory → NeedsGrowth (need n at.place (sizes_under old at.root)) old
    pub enough : (at : Placing old path) → need n at.place (sizes_under old at.root) ≤ free_count old → IsOk result
    pub refused_pool : OnErr result (new ≡ old)
    pub refused_path : OnErr result (path' ≡ path)

  -- What a removal at a path returns and leaves, on each entry where the path stands. The entry is out of the list, and the nodes that this
  -- frees are on the free list; `None` where it was the tree's last, which ends the tree
  pub record RemovesHere {n : ℕ} (old new : Table K V) (path path' : Path K V n) (result : Option ℕ) : Type 0 where
    pub removed : (at : OnEntry old path) → IfSome result (λ root'. Changes n old new at.root root' (remove (list_under old at.root) at.place) (shrink n at.place (sizes_under old at.root)))
    pub account : (at : OnEntry old path) → GivesNodes (sizes_under old at.root) (shrink n at.place (sizes_under old at.root)) old new
    pub order : (at : OnEntry old path) → GivesInOrder (nodes_of path) (sizes_under old at.root) (shrink n at.place (sizes_under old at.root)) old new
    pub stands : (at : OnEntry old path) → IfSome result (λ root'. StandsAt new root' path' at.place)
    pub same_root : (at : OnEntry old path) → IfSome result (λ root'. (root' ≡ at.root) ↔ (length (shrink n at.place (sizes_under old at.root)) ≡ length (sizes_under old at.root)))
    pub last : (at : OnEntry old path) → (result ≡ None) ↔ (length (list_under old at.root) ≡ 1)
    pub ended : result ≡ None → (at : OnEntry old path) → Ends n old new at.root
    pub end : result ≡ None → IsAtEnd path'
    pub none_left : result ≡ None → (at : OnEntry old path) → shrink n at.place (sizes_under old at.root) ≡ []
    pub freed_root : (at : OnEntry old path) → result ≢ Some at.root → 0 < count at.root new.chain

  -- the leaf behind the path's and the key of its last entry; none where the path's leaf is the last
  abbrev pub NextLeafIs : {n : ℕ} {table : Table K V} {path : Path K V n} → OnEntry table path → Option (ℕ × K) → Type 0
  NextLeafIs at None = at.on.stands.leaf.after ≡ []
  NextLeafIs at (Some next) =
      (front : List (K × V)) × (last : K × V) × (rest : List (LevelNode K V)) × (at.on.stands.leaf.after ≡ node next.0 (front ++ last ∷ []) ∷ rest) × (last.0 ≡ next.1)

  -- What the removal of the leaf behind the path's returns and leaves, where these leaves are behind that one: the entries of the leaf are out
  -- of the list, and the nodes that this frees are on the free list. The path stays on its entry
  pub record RemovesNext {n : ℕ} (old new : Table K V) (path path' : Path K V n) (at : OnEntry old path) (rest : List (LevelNode K V)) (root' : ℕ) : Type 0 where
    pub removed : Changes n old new at.root root' (flat (at.on.stands.leaf.before ++ node (leaf_of path) at.on.stands.leaf.entries ∷ rest)) (without_next (length at.on.stands.leaf.before) (sizes_under old at.root))
    pub account : GivesNodes (sizes_under old at.root) (without_next (length at.on.stands.leaf.before) (sizes_under old at.root)) old new
    pub stands : StandsOn new root' path' at.place
    pub same_root : (root' ≡ at.root) ↔ (length (without_next (length at.on.stands.leaf.before) (sizes_under old at.root)) ≡ length (sizes_under old at.root))
    pub order : GivesInOrder (nodes_of path) (sizes_under old at.root) (without_next (length at.on.stands.leaf.before) (sizes_under old at.root)) old new
    pub freed_root : root' ≢ at.root → 0 < count at.root new.chain

  -- What a cut at a path returns and leaves, on each entry where the path stands. The entries from there on are out of the list, and the
  -- nodes that held them alone are on the free list; `None` where the first entry went too, which ends the tree
  pub record CutsHere {n : ℕ} (old new : Table K V) (path path' : Path K V n) (result : Option ℕ) : Type 0 where
    pub removed : (at : OnEntry old path) → IfSome result (λ root'. Changes n old new at.root root' (take at.place (list_under old at.root)) (truncated at.place (sizes_under old at.root)))
    pub account : (at : OnEntry old path) → GivesNodes (sizes_under old at.root) (truncated at.place (sizes_under old at.root)) old new
    pub same_root : (at : OnEntry old path) → IfSome result (λ root'. (root' ≡ at.root) ↔ (length (truncated at.place (sizes_under old at.root)) ≡ length (sizes_under old at.root)))
    pub first : (at : OnEntry old path) → (result ≡ None) ↔ (at.place ≡ 0)
    pub ended : result ≡ None → (at : OnEntry old path) → Ends n old new at.root
    pub none_left : result ≡ None → (at : OnEntry old path) → truncated at.place (sizes_under old at.root) ≡ []
    pub freed_root : (at : OnEntry old path) → result ≢ Some at.root → 0 < count at.root new.chain
    pub end : IsAtEnd path'

  -- What a cut in front of a path returns and leaves, on each entry where the path stands but the first: the root of what is left
  pub record CutsFrontHere {n : ℕ} (old new : Table K V) (path path' : Path K V n) (root' : ℕ) : Type 0 where
    pub cut : (at : OnEntry old path) → 0 < at.place → CutsFront n old new at.root at.place root'
    pub end : IsAtEnd path'

  -- What a detaching at a path returns and leaves, on each entry where the path stands but the first: the roots of the two trees
  pub record DetachesHere {n : ℕ} (old new : Table K V) (path path' : Path K V n) (result : ℕ × ℕ) : Type 0 where
    pub divided : (at : OnEntry old path) → 0 < at.place → Divides n old new at.root at.place result.0 result.1
    pub end : IsAtEnd path'

  -- the path stands at its index in a leaf of these entries, which start at this place of the list under a root
  pub record OnLeaf {n : ℕ} (table : Table K V) (root : ℕ) (path : Path K V n) (place : ℕ) (entries : List (K × V)) : Type 0 where
    pub on : StandsOn table root path (place + index_of path)
    pub within : index_of path < length entries
    pub leaf : slice_get table.nodes (leaf_of path) ≡ Some (leaf_content entries)
    pub list : drop place (list_under table root) ≡ entries ++ drop (place + length entries) (list_under table root)

  -- the place in a row of the entry at this index of the node with this number
  abbrev pub place_in : List (LevelNode K V) → ℕ → ℕ → ℕ
  place_in [] number index = 0
  place_in (node first entries ∷ rest) number index =
      if nat_eq first number then index else length entries + place_in rest number index

  -- the place where a path stands under a root, computed from the path's leaf and its index there
  abbrev pub spot : {n : ℕ} → Table K V → ℕ → Path K V n → ℕ
  spot table root path =
      if path.size == 0 then length (list_under table root) else place_in (tree_of table.nodes root).leaves (leaf_of path) (index_of path)
