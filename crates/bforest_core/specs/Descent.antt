-- Descending a tree: the leaves and rows below some of its nodes, and where a path stands there.
use Rattle.std.specs.Prelude.{◌≡◌, ◌≢◌, ℕ, suc, ◌+◌, ◌≤◌, ◌<◌, true, false, List, [], ◌∷◌, ◌++◌, length, get_or, slice_get, slice_set, Some}
use Rattle.std.specs.declared.cmp.Ordering.{Ordering}
use Rattle.std.specs.declared.cmp.Ordering.TheVariants.{Greater}
use Rattle.bforest_nodes.specs.Content.{Content}
use Rattle.bforest_nodes.specs.Search.{count_up_to}
use Rattle.bforest_nodes.specs.Entries.{IsIncreasing, is_present, place, value_for}
use Rattle.bforest_core.specs.Levels.{LevelNode, node, flat, heads, FitRow, half_of, Tree, IsFit, top_level}
use Rattle.bforest_core.specs.Place.{RowIn, RowsIn, leaf_content, IsAt, IsIn, root_of}

-- the two paths agree above a level
abbrev pub SameAbove : ℕ → List ℕ → List ℕ → Type 0
SameAbove level old new = (above : ℕ) → level < above → get_or new above 0 ≡ get_or old above 0

module _ {K : Type 0} where
  -- the rows from a level whose nodes are listed up to a level whose nodes are `top`: each row's entries are
  -- the nodes of the row below
  abbrev pub StackedTo : List (K × ℕ) → List (List (LevelNode K ℕ)) → List (K × ℕ) → Type 0
  StackedTo list [] top = list ≡ top
  StackedTo list (row ∷ rows) top = (flat row ≡ list) × FitRow 4 8 row × StackedTo (heads row) rows top

  -- where a path stands on these rows from a level up: each node is the entry above it, the lowest entry is
  -- at the place, and the highest node is number `top` of its level
  abbrev pub StandsTo : List ℕ → List ℕ → ℕ → List (List (LevelNode K ℕ)) → ℕ → ℕ → Type 0
  StandsTo path indices level [] place top = place ≡ top
  StandsTo path indices level (row ∷ rows) place top =
      (at : IsAt row (get_or path level 0) (get_or indices level 0) place) × StandsTo path indices (suc level) rows (length at.before) top

module _ {K : Type 0} (cmp : K → K → Ordering) where
  -- the index of the child to follow: the number of separators that are not greater than the key
  abbrev pub child_index : List K → K → ℕ
  child_index keys key = count_up_to cmp keys key

  -- the key is not less than the first key of a node, unless the node is the first of its level
  abbrev pub IsFrom : List (K × ℕ) → K → K → Type 0
  IsFrom [] first key = Unit {0}
  IsFrom (other ∷ before) first key = cmp first key ≢ Greater

  -- the key is less than the first key of the next node, if there is one
  abbrev pub IsUpTo : {X : Type 0} → List (K × X) → K → Type 0
  IsUpTo [] key = Unit {0}
  IsUpTo (next ∷ after) key = cmp next.0 key ≡ Greater

  -- a search for the key goes through the node with this first key between these nodes of its level
  pub record GoesThrough (before : List (K × ℕ)) (first : K) (after : List (K × ℕ)) (key : K) : Type 0 where
    pub from : IsFrom before first key
    pub upto : IsUpTo after key

-- the leaves and the inner rows under a level whose nodes are `top`: they fit, and are in the slots
pub record Under {K V : Type 0} (most : ℕ) (slots : List (Content K V)) (leaves : List (LevelNode K V)) (lower : List (List (LevelNode K ℕ))) (top : List (K × ℕ)) : Type 0 where
  pub leaves_fit : FitRow (half_of most) most leaves
  pub leaves_in : RowIn leaf_content slots leaves
  pub stacked : StackedTo (heads leaves) lower top
  pub rows_in : RowsIn slots lower

-- the path stands on these rows, from a place on the lowest level up to this node of the top; above that it is unchanged
pub record LedUp {K : Type 0} (lower : List (List (LevelNode K ℕ))) (place top : ℕ) (path indices path' indices' : List ℕ) : Type 0 where
  pub stands : StandsTo path' indices' 1 lower place top
  pub nodes_above : SameAbove (length lower) path path'
  pub entries_above : SameAbove (length lower) indices indices'

-- a node over these leaves, with the inner rows between and the other nodes of its level
pub record NodeOver {K V : Type 0} (most : ℕ) (slots : List (Content K V)) (leaves : List (LevelNode K V)) (number : ℕ) : Type 0 where
  pub lower : List (List (LevelNode K ℕ))
  pub before : List (K × ℕ)
  pub first : K
  pub after : List (K × ℕ)
  pub under : Under most slots leaves lower (before ++ (first, number) ∷ after)

module _ {K V : Type 0} (cmp : K → K → Ordering) where
  -- where a path stands in the leaf in which a search for the key ends, at the key's place. It is past the
  -- last entry only if the key is absent, and before the first only if the key is present or the leaf is the first
  pub record IsPlaced (leaves : List (LevelNode K V)) (key : K) (number index : ℕ) : Type 0 where
    pub before : List (LevelNode K V)
    pub entries : List (K × V)
    pub after : List (LevelNode K V)
    pub row_is : leaves ≡ before ++ node number entries ∷ after
    pub within : index ≤ length entries
    pub place_is : place cmp (flat leaves) key ≡ length (flat before) + index
    pub found : is_present cmp (flat leaves) key ≡ true → index < length entries
    pub first : is_present cmp (flat leaves) key ≡ false → index ≡ 0 → before ≡ []

  -- the path stands where a search for the key ends, and on the rows from there up to this node of the top;
  -- above that it is unchanged
  pub record Descended (leaves : List (LevelNode K V)) (lower : List (List (LevelNode K ℕ))) (key : K) (top : ℕ) (path indices path' indices' : List ℕ) : Type 0 where
    pub leaf : IsPlaced leaves key (get_or path' 0 0) (get_or indices' 0 0)
    pub up : LedUp lower (length leaf.before) top path indices path' indices'
    pub open up use *

  -- the path is in the leaf in which a search for the key ends, which has these entries: it descended there,
  -- once its index in the leaf is the key's place among these entries
  pub record Reached (slots : List (Content K V)) (leaves : List (LevelNode K V)) (lower : List (List (LevelNode K ℕ))) (key : K) (top : ℕ) (path indices path' indices' : List ℕ) (leaf : ℕ) : Type 0 where
    pub leaf_is : get_or path' 0 0 ≡ leaf
    pub entries : List (K × V)
    pub slot_is : slice_get slots leaf ≡ Some (leaf_content entries)
    pub increasing : IsIncreasing cmp entries
    pub value_is : value_for cmp (flat leaves) key ≡ value_for cmp entries key
    pub found_is : is_present cmp (flat leaves) key ≡ is_present cmp entries key
    pub nodes_wide : length path' ≡ length path
    pub indices_wide : length indices' ≡ length indices
    pub descended : Descended leaves lower key top path indices path' (slice_set indices' 0 (place cmp entries key))

-- the path stands at a place of the leaves, and on the rows from there up to this node of the top; above that it is unchanged
pub record Led {K V : Type 0} (leaves : List (LevelNode K V)) (lower : List (List (LevelNode K ℕ))) (place top : ℕ) (path indices path' indices' : List ℕ) : Type 0 where
  pub leaf : IsAt leaves (get_or path' 0 0) (get_or indices' 0 0) place
  pub up : LedUp lower (length leaf.before) top path indices path' indices'
  pub open up use *

module _ {K : Type 0} where
  -- no node of a level is before a node, or none is after it
  abbrev pub IsFirst : List (K × ℕ) → List (K × ℕ) → Type 0
  IsFirst before after = before ≡ []

  abbrev pub IsLast : List (K × ℕ) → List (K × ℕ) → Type 0
  IsLast before after = after ≡ []

module _ {K V : Type 0} (most : ℕ) (slots : List (Content K V)) (Side : List (K × ℕ) → List (K × ℕ) → Type 0) (number level : ℕ) where
  -- leaves and rows lie under a node of this level, which is on one side of it
  abbrev pub HasBelow : Type 0
  HasBelow = (leaves : List (LevelNode K V)) × (n : NodeOver most slots leaves number) × Side n.before n.after × (level ≡ length n.lower)

  -- what is said of the leaves and rows under that node and of its place in the level, whichever they are
  abbrev pub OnBelow : (List (LevelNode K V) → List (List (LevelNode K ℕ)) → ℕ → Type 0) → Type 0
  OnBelow Said =
      (leaves : List (LevelNode K V)) (n : NodeOver most slots leaves number) → Side n.before n.after → level ≡ length n.lower
      → Said leaves n.lower (length n.before)

-- the tree is in the slots under this root, fit, not empty, and of a height of at most 17
pub record IsRooted {K V : Type 0} (most : ℕ) (slots : List (Content K V)) (root : ℕ) (tree : Tree K V) : Type 0 where
  pub fit : IsFit most tree
  pub inside : IsIn slots tree
  pub root_is : root_of tree ≡ root
  pub some : 1 ≤ length (flat tree.leaves)
  pub low : length tree.above ≤ top_level

-- a search for the key among these leaves goes through this node, above which this many levels are
pub record SearchThrough {K V : Type 0} (cmp : K → K → Ordering) (most : ℕ) (slots : List (Content K V)) (leaves : List (LevelNode K V)) (key : K) (number depth : ℕ) : Type 0 where
  pub on : NodeOver most slots leaves number
  pub open on use *
  pub increasing : IsIncreasing cmp (flat leaves)
  pub through : GoesThrough cmp before first after key
  pub low : depth + length lower ≤ top_level
