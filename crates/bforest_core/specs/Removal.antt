-- What the calls of a path state of the rows above a level, and of a whole tree, when an entry is removed.
use Rattle.std.specs.Prelude.{Some, remove, ◌≡◌, ◌≢◌, ℕ, suc, ◌+◌, ◌-◌, ◌≤◌, ◌<◌, Bool, true, false, List, [], ◌∷◌, ◌++◌, map, length, get_or, slice_get}
use Rattle.std.specs.List.{flat_map}
use Rattle.bforest_nodes.specs.Content.{Content, IsLeafCapacity, without_entry}
use Rattle.bforest_core.specs.Table.{Table, with_freed, with_node}
use Rattle.bforest_core.specs.Levels.{LevelNode, node, flat, heads, sizes, numbers, FitRow, Solid, Stacked, Topped, least, Tree, IsFit, half_of, sizes_of, top_level}
use Rattle.bforest_core.specs.Sizes.{rebalanced, shrink}
use Rattle.bforest_core.specs.Place.{RowIn, RowsIn, IsIn, leaf_content, inner_content, count, Distinct, root_above, root_of, numbers_of, Stands}
use Rattle.bforest_core.specs.Descent.{SameAbove}
use Rattle.bforest_core.specs.Climb.{Above, SameBelow, nodes_up, top_of}
use Rattle.bforest_core.specs.Trades.{Frees}

-- the numbers of some leaves and of the inner nodes over them
abbrev pub numbers_under : {K V : Type 0} → List (LevelNode K V) → List (List (LevelNode K ℕ)) → List ℕ
numbers_under leaves lower = numbers leaves ++ flat_map numbers lower

-- freed numbers, the last first: nodes of a path from the leaf up, and in front of them this many roots
pub record InOrder (path : List ℕ) (levels : ℕ) (freed : List ℕ) : Type 0 where
  pub roots : List ℕ
  pub up : ℕ
  pub freed_is : freed ≡ roots ++ nodes_up path 0 up
  pub roots_are : length roots ≡ levels

-- what an entry of a leaf holds beside its key, or else one of an inner node
abbrev pub Item : Type 0 → Bool → Type 0
Item V true = V
Item V false = ℕ

-- what the slot of a leaf holds, or else of an inner node
abbrev pub content_at : {K V : Type 0} (leaf : Bool) → List (K × Item V leaf) → Content K V
content_at true entries = leaf_content entries
content_at false entries = inner_content entries

-- half the capacity of a leaf, which is n, or else of an inner node
abbrev pub half_at : Bool → ℕ → ℕ
half_at true n = half_of n
half_at false n = 4

-- the capacity of a leaf, which is n, or else of an inner node
abbrev pub most_at : Bool → ℕ → ℕ
most_at true n = n
most_at false n = 8

-- the path is as it was below a level, and leads to the same root
pub record Keeps (path indices path' indices' : List ℕ) (level size : ℕ) : Type 0 where
  pub nodes_below : SameBelow level path path'
  pub entries_below : SameBelow level indices indices'
  pub same_top : top_of path' size ≡ top_of path size

module _ {K V : Type 0} where
  -- the rows from a level up after a change of the level: `list` is its nodes, the path leads to the place,
  -- the rows have these sizes, and they have lost the freed numbers
  pub record Rebuilt (old new : Table K V) (path indices path' indices' : List ℕ) (level size : ℕ) (rows : List (List (LevelNode K ℕ))) (list : List (K × ℕ)) (place : ℕ) (sizes_after : List (List ℕ)) (freed : List ℕ) : Type 0 where
    pub rows' : List (List (LevelNode K ℕ))
    pub above : Above new path' indices' level size rows' list place
    pub sizes_are : map sizes rows' ≡ sizes_after
    pub frees : Frees old new (flat_map numbers rows) (flat_map numbers rows') freed
    pub keeps : Keeps path indices path' indices' level size
    pub open keeps use *

  -- the rows from a level up, under other first keys of the level: its nodes are `list` now, and the path and the
  -- rows' sizes and numbers are as they were
  abbrev pub Rekeyed : Table K V → Table K V → List ℕ → List ℕ → ℕ → ℕ → List (List (LevelNode K ℕ)) → List (K × ℕ) → ℕ → Type 0
  Rekeyed old new path indices level size rows list place =
      Rebuilt old new path indices path indices level size rows list place (map sizes rows) []

  -- a level with a node that lost an entry and may be less than half full: the path goes through it, to one
  -- of its entries or past the last
  pub record OnLevel {X : Type 0} (content : List (K × X) → Content K V) (half most : ℕ) (table : Table K V) (path indices : List ℕ) (level size : ℕ)
      (before : List (LevelNode K X)) (number : ℕ) (entries : List (K × X)) (after : List (LevelNode K X)) (rest : List (List (LevelNode K ℕ))) : Type 0 where
    pub inside : RowIn content table.nodes (before ++ node number entries ∷ after)
    pub solid : Solid half most before
    pub fits : FitRow half most after
    pub some : 1 ≤ length entries
    pub lost_one : least half after ≤ suc (length entries)
    pub most_is : length entries ≤ most
    pub above : Above table path indices (suc level) size rest (heads (before ++ node number entries ∷ after)) (length (heads before))
    pub number_is : get_or path level 0 ≡ number
    pub entry_was : get_or indices level 0 ≤ length entries
    pub apart : Distinct ((numbers (before ++ node number entries ∷ after) ++ flat_map numbers rest) ++ table.chain)

  -- a level after an entry of its row was removed: it and the rows above it had these sizes and numbers, and its
  -- entries are `list` now. The node that lost the entry may be less than half full
  pub record Loosened {X : Type 0} (content : List (K × X) → Content K V) (half most : ℕ) (old new : Table K V) (path indices : List ℕ) (level size : ℕ)
      (were : List (List ℕ)) (own : List ℕ) (list : List (K × X)) (place : ℕ) : Type 0 where
    pub before : List (LevelNode K X)
    pub entries : List (K × X)
    pub after : List (LevelNode K X)
    pub rest : List (List (LevelNode K ℕ))
    pub on_level : OnLevel content half most new path indices level size before (get_or path level 0) entries after rest
    pub open on_level use *
    pub list_is : flat (before ++ node (get_or path level 0) entries ∷ after) ≡ list
    pub place_is : place ≡ length (flat before) + get_or indices level 0
    pub was : (es : List (K × X)) → slice_get old.nodes (get_or path level 0) ≡ Some (content es) → length es ≡ suc (length entries)
    pub sizes_were : were ≡ (sizes before ++ suc (length entries) ∷ sizes after) ∷ map sizes rest
    pub frees : Frees old new own (numbers (before ++ node (get_or path level 0) entries ∷ after) ++ flat_map numbers rest) []

  -- rows of inner nodes, after an entry of the lowest was removed
  abbrev pub LoosenedRows : Table K V → Table K V → List ℕ → List ℕ → ℕ → ℕ → List (List (LevelNode K ℕ)) → List (K × ℕ) → ℕ → Type 0
  LoosenedRows old new path indices level size rows list place =
      Loosened inner_content 4 8 old new path indices level size (map sizes rows) (flat_map numbers rows) list place

  -- the level is rebalanced: its row and those above it fit, and the path leads to the same entry
  pub record Healed {X : Type 0} (content : List (K × X) → Content K V) (half most : ℕ) (old new : Table K V) (path indices path' indices' : List ℕ) (level size : ℕ)
      (before : List (LevelNode K X)) (number : ℕ) (entries : List (K × X)) (after : List (LevelNode K X)) (rest : List (List (LevelNode K ℕ))) : Type 0 where
    pub before' : List (LevelNode K X)
    pub number' : ℕ
    pub entries' : List (K × X)
    pub after' : List (LevelNode K X)
    pub rest' : List (List (LevelNode K ℕ))
    pub stays : (rebalanced most (length entries) (sizes after)).0 ≡ false
    pub inside : RowIn content new.nodes (before' ++ node number' entries' ∷ after')
    pub fit : FitRow half most (before' ++ node number' entries' ∷ after')
    pub list_is : flat (before' ++ node number' entries' ∷ after') ≡ flat (before ++ node number entries ∷ after)
    pub above : Above new path' indices' (suc level) size rest' (heads (before' ++ node number' entries' ∷ after')) (length (heads before'))
    pub number_is : get_or path' level 0 ≡ number'
    pub within : get_or indices level 0 < length (entries ++ flat after) → get_or indices' level 0 < length entries'
    pub place_is : length (flat before') + get_or indices' level 0 ≡ length (flat before) + get_or indices level 0
    pub sizes_are : sizes (before' ++ node number' entries' ∷ after') ≡ sizes before ++ (rebalanced most (length entries) (sizes after)).1
    pub rest_sizes : map sizes rest' ≡ map sizes rest
    pub row_numbers : numbers (before' ++ node number' entries' ∷ after') ≡ numbers (before ++ node number entries ∷ after)
    pub frees : Frees old new (numbers (before ++ node number entries ∷ after) ++ flat_map numbers rest) (numbers (before' ++ node number' entries' ∷ after') ++ flat_map numbers rest') []
    pub keeps : Keeps path indices path' indices' level size
    pub open keeps use *

  -- the node is merged into its right neighbour, to which the path leads; the level above still names both
  pub record Joined {X : Type 0} (content : List (K × X) → Content K V) (half most : ℕ) (old new : Table K V) (path indices path' indices' : List ℕ) (level size : ℕ)
      (before : List (LevelNode K X)) (number : ℕ) (entries : List (K × X)) (after : List (LevelNode K X)) (rest : List (List (LevelNode K ℕ))) : Type 0 where
    pub first : K × X
    pub others : List (K × X)
    pub key : K
    pub right : ℕ
    pub right_entries : List (K × X)
    pub after' : List (LevelNode K X)
    pub entries_are : entries ≡ first ∷ others
    pub after_is : after ≡ node right right_entries ∷ after'
    pub outcome : rebalanced most (length entries) (sizes after) ≡ (true, length (entries ++ right_entries) ∷ sizes after')
    pub inside : RowIn content new.nodes (before ++ node right (entries ++ right_entries) ∷ after')
    pub fit : FitRow half most (before ++ node right (entries ++ right_entries) ∷ after')
    pub above : Above new path' indices' (suc level) size rest (heads before ++ (first.0, number) ∷ (key, right) ∷ heads after') (length (heads before))
    pub number_is : get_or path' level 0 ≡ right
    pub entry_is : get_or indices' level 0 ≡ get_or indices level 0
    pub frees : Frees old new (numbers (before ++ node number entries ∷ after)) (numbers (before ++ node right (entries ++ right_entries) ∷ after')) (number ∷ [])
    pub nodes_above : SameAbove level path path'
    pub keeps : Keeps path indices path' indices' level size
    pub open keeps use *

  -- the path's node on a level, a leaf or else an inner node, lost an entry. Half full, it has `least` entries or more, and the path is at
  -- an entry
  pub record Loses (n least : ℕ) (table : Table K V) (path indices : List ℕ) (level size : ℕ) : Type 0 where
    pub leaf : Bool
    pub capacity : leaf ≡ true → IsLeafCapacity n
    pub least_is : least ≡ half_at leaf n
    pub before : List (LevelNode K (Item V leaf))
    pub entries : List (K × Item V leaf)
    pub after : List (LevelNode K (Item V leaf))
    pub rest : List (List (LevelNode K ℕ))
    pub on : OnLevel (content_at leaf) (half_at leaf n) (most_at leaf n) table path indices level size before (get_or path level 0) entries after rest
    pub at_entry : least ≤ length entries → get_or indices level 0 < length (entries ++ flat after)

  -- this level is rebalanced
  abbrev pub Heals : {n least : ℕ} {old : Table K V} {path indices : List ℕ} {level size : ℕ} → Loses n least old path indices level size → Table K V → List ℕ → List ℕ → Type 0
  Heals {n} {old} {path} {indices} {level} {size} w new path' indices' =
      Healed (content_at w.leaf) (half_at w.leaf n) (most_at w.leaf n) old new path indices path' indices' level size w.before (get_or path level 0) w.entries w.after w.rest

  -- this level's node is merged into its right neighbour
  abbrev pub Joins : {n least : ℕ} {old : Table K V} {path indices : List ℕ} {level size : ℕ} → Loses n least old path indices level size → Table K V → List ℕ → List ℕ → Type 0
  Joins {n} {old} {path} {indices} {level} {size} w new path' indices' =
      Joined (content_at w.leaf) (half_at w.leaf n) (most_at w.leaf n) old new path indices path' indices' level size w.before (get_or path level 0) w.entries w.after w.rest

  -- the rows from a level up after the level lost its rightmost node: the path is at the end and has no node
  -- in the rows
  pub record Dropped (old new : Table K V) (path : List ℕ) (size : ℕ) (rows : List (List (LevelNode K ℕ))) (list : List (K × ℕ)) (sizes_after : List (List ℕ)) (freed : List ℕ) : Type 0 where
    pub rows' : List (List (LevelNode K ℕ))
    pub stacked : Stacked list rows'
    pub inside : RowsIn new.nodes rows'
    pub height : length rows' ≡ length rows
    pub sizes_are : map sizes rows' ≡ sizes_after
    pub root_is : root_above list rows' ≡ top_of path size
    pub frees : Frees old new (flat_map numbers rows) (flat_map numbers rows') freed

  -- the rows over a level up to this root, with this many levels on the path: they are in the table, off its free list
  pub record UpTo (table : Table K V) (size : ℕ) (rows : List (List (LevelNode K ℕ))) (list : List (K × ℕ)) (root : ℕ) : Type 0 where
    pub stacked : Stacked list rows
    pub inside : RowsIn table.nodes rows
    pub height : suc (length rows) ≡ size
    pub root_is : root_above list rows ≡ root
    pub apart : Distinct (flat_map numbers rows ++ table.chain)

  -- the rows after roots with a single child were discarded: the lowest ones, up to the first of a single node
  pub record Trimmed (old new : Table K V) (size size' : ℕ) (rows : List (List (LevelNode K ℕ))) (list : List (K × ℕ)) (root root' : ℕ) (freed : List ℕ) : Type 0 where
    pub rows' : List (List (LevelNode K ℕ))
    pub discarded : List (List (LevelNode K ℕ))
    pub rows_are : rows ≡ rows' ++ discarded
    pub stacked : Stacked list rows'
    pub topped : Topped list rows'
    pub size_is : suc (length rows') ≡ size'
    pub one_each : length freed ≡ length discarded
    pub root_is : root_above list rows' ≡ root'
    pub same_root : size' ≡ size → root' ≡ root
    pub old_root : size' ≢ size → 0 < count root freed
    pub frees : Frees old new (flat_map numbers discarded) [] freed

  -- the path stands at an entry of a fit tree, which is in the table, off its free list
  pub record StandsIn (most : ℕ) (table : Table K V) (path indices : List ℕ) (size : ℕ) (tree : Tree K V) (place : ℕ) : Type 0 where
    pub fit : IsFit most tree
    pub inside : IsIn table.nodes tree
    pub apart : Distinct (numbers_of tree ++ table.chain)
    pub low : length tree.above ≤ top_level
    pub stands : Stands path indices size tree place

  -- a leaf had one entry, which may be removed already; freed, both tables are the same
  pub record IsSingle (old new : Table K V) (leaf : ℕ) : Type 0 where
    pub entry : K × V
    pub slot_was : slice_get old.nodes leaf ≡ Some (leaf_content (entry ∷ []))
    pub freed_is : with_freed new leaf ≡ with_freed old leaf

  -- the path's leaf lost the entry at the path's index, and has others; the rest of the table is unchanged
  pub record HasOthers (old new : Table K V) (path indices : List ℕ) : Type 0 where
    pub x : K × V
    pub y : K × V
    pub more : List (K × V)
    pub slot_was : slice_get old.nodes (get_or path 0 0) ≡ Some (leaf_content (x ∷ y ∷ more))
    pub new_is : new ≡ with_node old (get_or path 0 0) (without_entry (leaf_content (x ∷ y ∷ more)) (get_or indices 0 0))

  -- the entry at the place is removed from the path's leaf, which has others: the path keeps its index, at
  -- the next entry or past the leaf's last
  pub record LeafLoss (most : ℕ) (old new : Table K V) (path indices : List ℕ) (size : ℕ) (tree : Tree K V) (place : ℕ) : Type 0 where
    pub loss : Loosened leaf_content (half_of most) most old new path indices 0 size (sizes_of tree) (numbers_of tree) (remove (flat tree.leaves) place) place
    pub open loss use *

  -- a tree whose path's leaf lost the entry at the place: if the leaf is still half full, the path is at an entry
  pub record Unbalanced (most : ℕ) (table : Table K V) (path indices : List ℕ) (size root : ℕ) : Type 0 where
    pub old : Table K V
    pub tree : Tree K V
    pub place : ℕ
    pub stands : StandsIn most old path indices size tree place
    pub root_is : root_of tree ≡ root
    pub lost : LeafLoss most old table path indices size tree place
    pub at_entry : half_of most ≤ length lost.entries → get_or indices 0 0 < length (lost.entries ++ flat lost.after)

  -- The tree has this list and these sizes now, is not empty and has the root `root'`. The freed nodes are in front of the free list, those of
  -- the path from the leaf up
  pub record Reduced (most : ℕ) (old new : Table K V) (path : List ℕ) (tree : Tree K V) (list : List (K × V)) (sizes_after : List (List ℕ)) (root' : ℕ) : Type 0 where
    pub tree' : Tree K V
    pub freed : List ℕ
    pub flat_is : flat tree'.leaves ≡ list
    pub sizes_are : sizes_of tree' ≡ sizes_after
    pub fit : IsFit most tree'
    pub inside : IsIn new.nodes tree'
    pub some : 1 ≤ length (flat tree'.leaves)
    pub root_is : root_of tree' ≡ root'
    pub same_root : length tree'.above ≡ length tree.above → root' ≡ root_of tree
    pub old_root : length tree'.above ≢ length tree.above → 0 < count (root_of tree) freed
    pub low : length tree'.above ≤ length tree.above
    pub order : InOrder path (length tree.above - length tree'.above) freed
    pub frees : Frees old new (numbers_of tree) (numbers_of tree') freed

  -- the entry at the place is removed from the tree, whose sizes are those of `shrink`
  abbrev pub Shrunk : ℕ → Table K V → Table K V → List ℕ → Tree K V → ℕ → ℕ → Type 0
  Shrunk most old new path tree place root' =
      Reduced most old new path tree (remove (flat tree.leaves) place) (shrink most place (sizes_of tree)) root'

  -- the entry is removed, and the tree that is left satisfies `Now`
  pub record Removed (most : ℕ) (old new : Table K V) (path : List ℕ) (Now : Tree K V → Type 0) (tree : Tree K V) (place root' : ℕ) : Type 0 where
    pub shrunk : Reduced most old new path tree (remove (flat tree.leaves) place) (shrink most place (sizes_of tree)) root'
    pub open shrunk use *
    pub at : Now tree'

  -- the only entry of the tree is removed, with its node
  pub record Emptied (most : ℕ) (old new : Table K V) (tree : Tree K V) (place : ℕ) : Type 0 where
    pub single : length (flat tree.leaves) ≡ 1
    pub none_left : shrink most place (sizes_of tree) ≡ []
    pub levels_are : sizes_of tree ≡ (1 ∷ []) ∷ []
    pub freed : List ℕ
    pub one : length freed ≡ 1
    pub frees : Frees old new (numbers_of tree) [] freed
