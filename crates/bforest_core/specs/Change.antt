-- What a call that changes one tree of a table states of it and of the others.
use Rattle.std.specs.Prelude.{◌≡◌, ◌≢◌, ℕ, ◌+◌, ◌-◌, ◌<◌, ◌≤◌, ◌↔◌, ◌++◌, ◌∷◌, [], Err, IfOk, IfSome, IsOk, IsTrue, OnErr, OnOk, Result, List, None, Option, Some, drop, get_or, length, remove, slice_get, take}
use Rattle.std.specs.List.{sum_by}
use Rattle.bforest_core.specs.Sizes.{backs, detached, fronts, shrink, truncated}
use Rattle.bforest_core.specs.Table.{GrowsFor, IsUsed, NeedsGrowth, Table, front_of, room, slot_count, free_count, reserved, with_front, with_node}
use Rattle.bforest_core.specs.declared.pool.OutOfMemory.{OutOfMemory}
use Rattle.bforest_core.specs.declared.pool.OutOfMemory.TheVariants.{Full, Memory}
use Rattle.bforest_nodes.specs.Content.{Content, Leaf, without_entry}
use Rattle.bforest_core.specs.Climb.{nodes_up}
use Rattle.bforest_core.specs.Levels.{flat, sizes_of}
use Rattle.bforest_core.specs.Place.{IsPathAt, PlacedAt, PointsAt, Stands, count, leaf_content}
use Rattle.bforest_core.specs.Trees.{tree_of, is_root, IsUnion, OthersKeep}

-- how many nodes a tree of these sizes has
abbrev pub node_count : List (List ℕ) → ℕ
node_count levels = sum_by (λ (level : List ℕ). length level) levels

-- how many nodes have entries or children both in front of a place and behind it: by so many more nodes the two parts have than the whole
abbrev pub severed : ℕ → List (List ℕ) → ℕ
severed place levels = (node_count (fronts place levels) + node_count (backs place levels)) - node_count levels

module _ {K V : Type 0} where
  -- the tree under `root` is replaced by one with this list and these sizes, perhaps under another root,
  -- which had no tree before; no other tree changes
  pub record Changes (most : ℕ) (old new : Table K V) (root root' : ℕ) (list : List (K × V)) (sizes : List (List ℕ)) : Type 0 where
    pub union : IsUnion most new
    pub root_is : IsTrue (is_root new.nodes root')
    pub list_is : flat (tree_of new.nodes root').leaves ≡ list
    pub sizes_are : sizes_of (tree_of new.nodes root') ≡ sizes
    pub others : OthersKeep old.nodes new.nodes root root'
    pub old_gone : root ≢ root' → ¬ IsTrue (is_root new.nodes root)
    pub new_came : root ≢ root' → ¬ IsTrue (is_root old.nodes root')
    pub limit_is : new.limit ≡ old.limit

  -- The tree under `root` became two, under `front` with the entries in front of a place, and under `behind` with those from there on, where
  -- leaves have at most `most`. No other tree changes. Of the nodes that were free and those of the tree, all that are in neither are free.
  pub record Divides (most : ℕ) (old new : Table K V) (root place front behind : ℕ) : Type 0 where
    pub union : IsUnion most new
    pub front_root : IsTrue (is_root new.nodes front)
    pub behind_root : IsTrue (is_root new.nodes behind)
    pub apart : front ≢ behind
    pub front_list : flat (tree_of new.nodes front).leaves ≡ take place (flat (tree_of old.nodes root).leaves)
    pub behind_list : flat (tree_of new.nodes behind).leaves ≡ drop place (flat (tree_of old.nodes root).leaves)
    pub front_sizes : sizes_of (tree_of new.nodes front) ≡ truncated place (sizes_of (tree_of old.nodes root))
    pub behind_sizes : sizes_of (tree_of new.nodes behind) ≡ detached most place (sizes_of (tree_of old.nodes root))
    pub others : (other : ℕ) → other ≢ root → other ≢ front → other ≢ behind → (IsTrue (is_root new.nodes other) ↔ IsTrue (is_root old.nodes other)) × (IsTrue (is_root old.nodes other) → tree_of new.nodes other ≡ tree_of old.nodes other)
    pub old_gone : root ≢ front → ¬ IsTrue (is_root new.nodes root)
    pub front_came : root ≢ front → ¬ IsTrue (is_root old.nodes front)
    pub behind_came : ¬ IsTrue (is_root old.nodes behind)
    pub same_root : (front ≡ root) ↔ (length (truncated place (sizes_of (tree_of old.nodes root))) ≡ length (sizes_of (tree_of old.nodes root)))
    pub slots : slot_count new ≡ slot_count old
    pub free : free_count new + node_count (sizes_of (tree_of new.nodes front)) + node_count (sizes_of (tree_of new.nodes behind)) ≡ free_count old + node_count (sizes_of (tree_of old.nodes root))
    pub memory_is : new.memory ≡ old.memory
    pub limit_is : new.limit ≡ old.limit

  -- both tables have the same roots, with the same tree under each
  abbrev pub KeepsTrees : List (Content K V) → List (Content K V) → Type 0
  KeepsTrees old new =
      (number : ℕ) → (is_root new number ≡ is_root old number) × (IsTrue (is_root old number) → tree_of new number ≡ tree_of old number)

  -- the first `count` nodes are taken off the free list; slots are added in front of the free list first where fewer
  -- are free
  pub record TakesNodes (count : ℕ) (old new : Table K V) : Type 0 where
    pub slots : slot_count new ≡ slot_count old + (count - free_count old)
    pub free : free_count new ≡ free_count old - count
    pub chain_is : new.chain ≡ drop count (reserved old count new.memory).chain
    pub memory : GrowsFor count old new

  -- a tree of one entry, made of one new node, is added under a number that was not a root
  pub record Plants (most : ℕ) (old new : Table K V) (root : ℕ) (entry : K × V) : Type 0 where
    pub changes : Changes most old new root root (entry ∷ []) ((1 ∷ []) ∷ [])
    pub fresh : ¬ IsTrue (is_root old.nodes root)
    pub takes : TakesNodes 1 old new

  -- a tree with this list and these sizes is added under a number that was not a root, in nodes from the front of the
  -- free list; slots are added to that first where fewer are free
  pub record PlantsTree (most : ℕ) (old new : Table K V) (root : ℕ) (list : List (K × V)) (sizes : List (List ℕ)) : Type 0 where
    pub changes : Changes most old new root root list sizes
    pub fresh : ¬ IsTrue (is_root old.nodes root)
    pub takes : TakesNodes (node_count sizes) old new

  -- a leaf of one entry was made in the front of the free list, or in a new slot where no node was free, and its number is returned; or
  -- memory or the limit is too small, and nothing changed
  pub record AllocatesLeaf (most : ℕ) (old new : Table K V) (key : K) (value : V) (result : Result ℕ OutOfMemory) : Type 0 where
    pub node : IfOk result (λ node. front_of (reserved old 1 new.memory).chain ≡ Some node)
    pub ok : OnOk result (new ≡ with_front (reserved old 1 new.memory) (reserved old 1 new.memory).chain (Leaf (key ∷ []) (value ∷ [])))
    pub growth : GrowsFor 1 old new
    pub err : OnErr result (new ≡ old)
    pub full : (result ≡ Err Full) ↔ (room old < 1)
    pub memory : result ≡ Err Memory → NeedsGrowth 1 old
    pub enough : 1 ≤ free_count old → IsOk result
    pub used : IfOk result (λ node. IsUsed new node)
    pub planted : IsUnion most old → IfOk result (λ node. Plants most old new node (key, value))

  -- the tree under a root is removed; every other root keeps its tree
  pub record Ends (most : ℕ) (old new : Table K V) (root : ℕ) : Type 0 where
    pub union : IsUnion most new
    pub root_gone : ¬ IsTrue (is_root new.nodes root)
    pub others : OthersKeep old.nodes new.nodes root root
    pub limit_is : new.limit ≡ old.limit

  -- a tree of the sizes `before` becomes one of the sizes `after` and frees nodes, which are put in front of
  -- the free list; no slot is added
  pub record GivesNodes (before after : List (List ℕ)) (old new : Table K V) : Type 0 where
    pub given : List ℕ
    pub chain_is : new.chain ≡ given ++ old.chain
    pub slots : slot_count new ≡ slot_count old
    pub memory_is : new.memory ≡ old.memory
    pub count_is : length given + node_count after ≡ node_count before

  -- the tree under a root lost the entries in front of a place and is under `root'` then, where leaves have at most `most`; nodes that are left
  -- over are free, as the old root is where it is not the new one
  pub record CutsFront (most : ℕ) (old new : Table K V) (root place root' : ℕ) : Type 0 where
    pub removed : Changes most old new root root' (drop place (flat (tree_of old.nodes root).leaves)) (detached most place (sizes_of (tree_of old.nodes root)))
    pub account : GivesNodes (sizes_of (tree_of old.nodes root)) (detached most place (sizes_of (tree_of old.nodes root))) old new
    pub same_root : (root' ≡ root) ↔ (length (detached most place (sizes_of (tree_of old.nodes root))) ≡ length (sizes_of (tree_of old.nodes root)))
    pub freed_root : root' ≢ root → 0 < count root new.chain

  -- freed nodes are in front of the free list: nodes of this path, leaf first, then one discarded root per lost
  -- level; each is in front of those freed before it
  pub record GivesInOrder (path : List ℕ) (before after : List (List ℕ)) (old new : Table K V) : Type 0 where
    pub roots : List ℕ
    pub up : ℕ
    pub chain_is : new.chain ≡ roots ++ (nodes_up path 0 up ++ old.chain)
    pub roots_are : length roots ≡ length before - length after

  -- the path stands at this entry of the tree under this root
  pub record StandsUnder (slots : List (Content K V)) (root : ℕ) (path indices : List ℕ) (size place : ℕ) : Type 0 where
    pub root_is : IsTrue (is_root slots root)
    pub stands : Stands path indices size (tree_of slots root) place

  -- the path is where an entry may be inserted at this place in the tree under this root
  pub record PlacedUnder (slots : List (Content K V)) (root : ℕ) (path indices : List ℕ) (size place : ℕ) : Type 0 where
    pub root_is : IsTrue (is_root slots root)
    pub at : PlacedAt path indices size (tree_of slots root) place

  -- the path is at this entry of the tree under this root, or at the end with no node
  pub record AtUnder (slots : List (Content K V)) (root : ℕ) (path indices : List ℕ) (size place : ℕ) : Type 0 where
    pub root_is : IsTrue (is_root slots root)
    pub at : IsPathAt path indices size (tree_of slots root) place

  -- the path is at this entry of the tree under this root, or past the last entry of the leaf before it
  pub record PointsUnder (slots : List (Content K V)) (root : ℕ) (path indices : List ℕ) (size place : ℕ) : Type 0 where
    pub root_is : IsTrue (is_root slots root)
    pub points : PointsAt path indices size (tree_of slots root) place

  -- the path's leaf lost the entry at the path's index; the rest of the table is unchanged
  pub record LeafTaken (old new : Table K V) (path indices : List ℕ) : Type 0 where
    pub entries : List (K × V)
    pub slot_was : slice_get old.nodes (get_or path 0 0) ≡ Some (leaf_content entries)
    pub new_is : new ≡ with_node old (get_or path 0 0) (without_entry (leaf_content entries) (get_or indices 0 0))

  -- the path stood on the entry at this place of the list under this root, and its leaf lost that entry
  pub record EntryTaken (most : ℕ) (old new : Table K V) (root place : ℕ) (path indices : List ℕ) (size : ℕ) : Type 0 where
    pub union : IsUnion most old
    pub stood : StandsUnder old.nodes root path indices size place
    pub leaf : LeafTaken old new path indices

  -- the tree under `root` lost the entry at this place and has the root `left`, or is empty; the nodes of this
  -- path that it freed are in front of the free list
  pub record Shrinks (most : ℕ) (old new : Table K V) (path : List ℕ) (root place : ℕ) (left : Option ℕ) : Type 0 where
    pub changes : IfSome left (λ root'. Changes most old new root root' (remove (flat (tree_of old.nodes root).leaves) place) (shrink most place (sizes_of (tree_of old.nodes root))))
    pub account : GivesNodes (sizes_of (tree_of old.nodes root)) (shrink most place (sizes_of (tree_of old.nodes root))) old new
    pub order : GivesInOrder path (sizes_of (tree_of old.nodes root)) (shrink most place (sizes_of (tree_of old.nodes root))) old new
    pub same_root : IfSome left (λ root'. (root' ≡ root) ↔ (length (shrink most place (sizes_of (tree_of old.nodes root))) ≡ length (sizes_of (tree_of old.nodes root))))
    pub last : (left ≡ None) ↔ (length (flat (tree_of old.nodes root).leaves) ≡ 1)
    pub ended : left ≡ None → Ends most old new root
    pub none_left : left ≡ None → shrink most place (sizes_of (tree_of old.nodes root)) ≡ []
    pub freed_root : left ≢ Some root → 0 < count root new.chain
