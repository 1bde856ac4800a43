-- What the calls of a path state of the rows above a level, and of a whole tree.
use Rattle.std.specs.Prelude.{◌≡◌, ◌≢◌, ℕ, zero, suc, ◌+◌, ◌-◌, ◌≤◌, ◌<◌, Bool, if◌then◌else◌, List, [], ◌∷◌, ◌++◌, map, length, insert, get_or, Some, None, Option}
use Rattle.std.specs.List.{flat_map}
use Rattle.bforest_nodes.specs.Content.{Content}
use Rattle.bforest_core.specs.Table.{Table}
use Rattle.bforest_core.specs.Levels.{LevelNode, node, flat, heads, sizes, numbers, FitRow, Stacked, Topped, Tree, IsFit, half_of, sizes_of}
use Rattle.bforest_core.specs.Sizes.{gain_above, inner_gain, leaf_gain, growth, need, need_above}
use Rattle.bforest_core.specs.Descent.{SameAbove}
use Rattle.bforest_core.specs.Place.{RowIn, RowsIn, IsIn, leaf_content, inner_content, count, Distinct, numbers_of, IsAt, StandsAbove, PlacedAt}
use Rattle.bforest_core.specs.Trades.{Draws}

-- the two paths agree below a level
abbrev pub SameBelow : ℕ → List ℕ → List ℕ → Type 0
SameBelow level old new = (below : ℕ) → below < level → get_or new below 0 ≡ get_or old below 0

-- the number of the root of a path with this many levels
abbrev pub top_of : List ℕ → ℕ → ℕ
top_of path size = get_or path (size - 1) 0

-- the `count` nodes of a path from this level up, the highest first
abbrev pub nodes_up : List ℕ → ℕ → ℕ → List ℕ
nodes_up path level zero = []
nodes_up path level (suc count) = nodes_up path (suc level) count ++ get_or path level 0 ∷ []

-- the next entry, if any, is the first of `rest`
abbrev pub NextIs : {K : Type 0} → Option (K × ℕ) → List (K × ℕ) → Type 0
NextIs None rest = rest ≡ []
NextIs {K} (Some next) rest = (others : List (K × ℕ)) × (rest ≡ next ∷ others)

-- the first key of the nodes that follow one, if any
abbrev pub KeyIs : {K : Type 0} → Option K → List (K × ℕ) → Type 0
KeyIs None rest = rest ≡ []
KeyIs (Some key) rest = (number : ℕ) × NextIs (Some (key, number)) rest

-- the path is as it was below a level, and its root is the old one or, with a level more, a taken one
pub record Climbs (path indices path' indices' : List ℕ) (level size size' : ℕ) (taken : List ℕ) : Type 0 where
  pub nodes_below : SameBelow level path path'
  pub entries_below : SameBelow level indices indices'
  pub same_top : size' ≡ size → top_of path' size' ≡ top_of path size
  pub new_top : size' ≢ size → 0 < count (top_of path' size') taken

module _ {K V : Type 0} where
  -- the rows from a level up stand over these nodes and are in the slots, and the path leads through them to the node at this place
  pub record Over (slots : List (Content K V)) (path indices : List ℕ) (level size : ℕ) (rows : List (List (LevelNode K ℕ))) (list : List (K × ℕ)) (place : ℕ) : Type 0 where
    pub stacked : Stacked list rows
    pub inside : RowsIn slots rows
    pub stands : StandsAbove path indices level rows place
    pub height : level + length rows ≡ size

  -- these rows are off the free list of the table
  pub record Above (table : Table K V) (path indices : List ℕ) (level size : ℕ) (rows : List (List (LevelNode K ℕ))) (list : List (K × ℕ)) (place : ℕ) : Type 0 where
    pub over : Over table.nodes path indices level size rows list place
    pub open over use *
    pub apart : Distinct (flat_map numbers rows ++ table.chain)

  -- the rows from a level up, with the path at this one of the nodes below them
  pub record OneAbove (table : Table K V) (path indices : List ℕ) (level size : ℕ) : Type 0 where
    pub rows : List (List (LevelNode K ℕ))
    pub before : List (K × ℕ)
    pub x : K × ℕ
    pub after : List (K × ℕ)
    pub above : Above table path indices level size rows (before ++ x ∷ after) (length before)

  -- the rows from a level up, with the path at the node `x` below them, and with the next one
  pub record TwoAbove (table : Table K V) (path indices : List ℕ) (level size : ℕ) : Type 0 where
    pub rows : List (List (LevelNode K ℕ))
    pub before : List (K × ℕ)
    pub x : K × ℕ
    pub y : K × ℕ
    pub after : List (K × ℕ)
    pub above : Above table path indices level size rows (before ++ x ∷ y ∷ after) (length before)

  -- the rows from a level up, with the path at the last node below them, and with the one before it
  pub record LastAbove (table : Table K V) (path indices : List ℕ) (level size : ℕ) : Type 0 where
    pub rows : List (List (LevelNode K ℕ))
    pub before : List (K × ℕ)
    pub y : K × ℕ
    pub x : K × ℕ
    pub above : Above table path indices level size rows (before ++ y ∷ x ∷ []) (suc (length before))

  -- the rows from a level up after the level gained a node: `list` is its nodes, and the path leads to the place
  pub record Grown (old new : Table K V) (path indices path' indices' : List ℕ) (level size size' : ℕ) (rows : List (List (LevelNode K ℕ))) (list : List (K × ℕ)) (place : ℕ) (sizes_after : List (List ℕ)) (taken : List ℕ) : Type 0 where
    pub rows' : List (List (LevelNode K ℕ))
    pub above : Above new path' indices' level size' rows' list place
    pub topped : (before : List (K × ℕ)) → length before ≤ length list → Topped before rows → Topped list rows'
    pub sizes_are : map sizes rows' ≡ sizes_after
    pub draws : Draws old new (flat_map numbers rows) (flat_map numbers rows') taken
    pub open draws use *
    pub climbs : Climbs path indices path' indices' level size size' taken
    pub open climbs use *

  -- these rows after the level below gained the node `right` behind the path's: they take as many nodes as that
  -- needs, and the path goes on to `right` or stays
  abbrev pub GrownBy : {old : Table K V} {path indices : List ℕ} {level size : ℕ} → OneAbove old path indices level size → K × ℕ → Bool → Table K V → List ℕ → List ℕ → ℕ → List ℕ → Type 0
  GrownBy {old} {path} {indices} {level} {size} w right moved new path' indices' size' taken =
      (suc (length taken) ≡ need_above (Some (length w.before)) (map sizes w.rows))
      × Grown old new path indices path' indices' level size size' w.rows (w.before ++ w.x ∷ right ∷ w.after) (if moved then suc (length w.before) else length w.before) (gain_above (Some (length w.before)) (map sizes w.rows)) taken

  -- the path's node on a level is split, with a new entry: `row` was the level and `rows` those above it, which take up a change of the
  -- level by `gain`. The level's entries are `list` now, the rows above lack only the right half, whose number and first key are given, and
  -- the path leads to the half with its place
  pub record Halved {X : Type 0} (content : List (K × X) → Content K V) (half most : ℕ) (old new : Table K V) (path indices path' indices' : List ℕ) (level size : ℕ) (row : List (LevelNode K X)) (rows : List (List (LevelNode K ℕ)))
      (gain : Option ℕ × List ℕ) (list : List (K × X)) (place : ℕ) (key : K) (right : ℕ) (moved : Bool) : Type 0 where
    pub before : List (LevelNode K X)
    pub after : List (LevelNode K X)
    pub rest : List (List (LevelNode K ℕ))
    pub first : K × X
    pub lefts : List (K × X)
    pub next : K × X
    pub rights : List (K × X)
    pub key_is : key ≡ next.0
    pub flat_is : flat (before ++ node (get_or path level 0) (first ∷ lefts) ∷ node right (next ∷ rights) ∷ after) ≡ list
    pub fit : FitRow half most (before ++ node (get_or path level 0) (first ∷ lefts) ∷ node right (next ∷ rights) ∷ after)
    pub inside : RowIn content new.nodes (before ++ node (get_or path level 0) (first ∷ lefts) ∷ node right (next ∷ rights) ∷ after)
    pub above : Above new path' indices' (suc level) size rest (heads before ++ (first.0, get_or path level 0) ∷ heads after) (length (heads before))
    pub topped : Topped (heads row) rows → Topped (heads before ++ (first.0, get_or path level 0) ∷ heads after) rest
    pub sizes_above : map sizes rest ≡ map sizes rows
    pub gain_is : gain ≡ (Some (length (heads before)), sizes (before ++ node (get_or path level 0) (first ∷ lefts) ∷ node right (next ∷ rights) ∷ after))
    pub at : IsAt (before ++ node (get_or path level 0) (first ∷ lefts) ∷ node right (next ∷ rights) ∷ after) (get_or path' level 0) (get_or indices' level 0) place
    pub at_is : length at.before ≡ (if moved then suc (length (heads before)) else length (heads before))
    pub apart : Distinct ((numbers (before ++ node (get_or path level 0) (first ∷ lefts) ∷ node right (next ∷ rights) ∷ after) ++ flat_map numbers rest) ++ new.chain)
    pub draws : Draws old new (numbers row ++ flat_map numbers rows) (numbers (before ++ node (get_or path level 0) (first ∷ lefts) ∷ node right (next ∷ rights) ∷ after) ++ flat_map numbers rest) (right ∷ [])
    pub open draws use *
    pub nodes_below : SameBelow level path path'
    pub entries_below : SameBelow level indices indices'
    pub nodes_above : SameAbove level path path'

  -- the path's full node in these rows is split, with the node `right` inserted behind the path's below
  abbrev pub HalvedBy : {old : Table K V} {path indices : List ℕ} {level size : ℕ} → OneAbove old path indices level size → K × ℕ → Bool → Table K V → List ℕ → List ℕ → K → ℕ → Bool → Type 0
  HalvedBy {old} {path} {indices} {level} {size} w right moved new path' indices' key half there =
      (row : List (LevelNode K ℕ)) × (rows : List (List (LevelNode K ℕ))) × (w.rows ≡ row ∷ rows)
      × Halved inner_content 4 8 old new path indices path' indices' level size row rows (inner_gain (length w.before) (sizes row)) (w.before ++ w.x ∷ right ∷ w.after) (if moved then suc (length w.before) else length w.before) key half there

  -- a level and the rows above it after the level gained an entry: `row` and `rows` became `row'` and `rows'`, the level's entries are
  -- `list`, and the path leads to the place
  pub record Raised {X : Type 0} (content : List (K × X) → Content K V) (half most : ℕ) (old new : Table K V) (path indices path' indices' : List ℕ) (level size size' : ℕ) (row : List (LevelNode K X)) (rows : List (List (LevelNode K ℕ)))
      (list : List (K × X)) (place : ℕ) (sizes_after : List (List ℕ)) (taken : List ℕ) : Type 0 where
    pub row' : List (LevelNode K X)
    pub rows' : List (List (LevelNode K ℕ))
    pub flat_is : flat row' ≡ list
    pub fit : FitRow half most row'
    pub inside : RowIn content new.nodes row'
    pub at : IsAt row' (get_or path' level 0) (get_or indices' level 0) place
    pub above : Above new path' indices' (suc level) size' rows' (heads row') (length at.before)
    pub topped : Topped (heads row) rows → Topped (heads row') rows'
    pub sizes_are : sizes row' ∷ map sizes rows' ≡ sizes_after
    pub draws : Draws old new (numbers row ++ flat_map numbers rows) (numbers row' ++ flat_map numbers rows') taken
    pub open draws use *
    pub climbs : Climbs path indices path' indices' level size size' taken
    pub open climbs use *

  -- the path is where an entry may be inserted in a fit tree, which is in the table, off its free list
  pub record Placed (most : ℕ) (table : Table K V) (path indices : List ℕ) (size : ℕ) (tree : Tree K V) (place : ℕ) : Type 0 where
    pub fit : IsFit most tree
    pub inside : IsIn table.nodes tree
    pub apart : Distinct (numbers_of tree ++ table.chain)
    pub at : PlacedAt path indices size tree place

  -- the entry is inserted at the place, where the path stands: the sizes are those of `growth`, and the new nodes are `taken`
  pub record Inserted (most : ℕ) (old new : Table K V) (path indices path' indices' : List ℕ) (size size' : ℕ) (tree : Tree K V) (place : ℕ) (entry : K × V) : Type 0 where
    pub taken : List ℕ
    pub taken_is : length taken ≡ need most place (sizes_of tree)
    pub raised : Raised leaf_content (half_of most) most old new path indices path' indices' 0 size size' tree.leaves tree.above (insert (flat tree.leaves) place entry) place (growth most place (sizes_of tree)) taken
    pub open raised use *

  -- the path's full leaf is split, with the entry inserted
  abbrev pub LeafHalved : ℕ → Table K V → Table K V → List ℕ → List ℕ → List ℕ → List ℕ → ℕ → Tree K V → ℕ → K × V → K → ℕ → Bool → Type 0
  LeafHalved most old new path indices path' indices' size tree place entry =
      Halved leaf_content (half_of most) most old new path indices path' indices' 0 size tree.leaves tree.above (leaf_gain most place (sizes tree.leaves)) (insert (flat tree.leaves) place entry) place
