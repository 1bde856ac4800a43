-- How an iterator keeps the entries that are left. No public clause of a forest cites this module.
use Rattle.bforest_core.specs.Levels.{LevelNode, flat, node}
use Rattle.bforest_core.specs.Paths.{IsAtEnd, OnEntry, list_under, path_root, spot}
use Rattle.bforest_core.specs.Place.{entry_items, entry_keys}
use Rattle.bforest_core.specs.Spots.{HasNoParent, IsLeafAt, IsSpotAt, leaf_place}
use Rattle.bforest_core.specs.Table.{Table}
use Rattle.bforest_core.specs.Trees.{IsUnion, tree_of}
use Rattle.bforest_core.specs.declared.path.Path.{Path}
use Rattle.bforest_core.specs.declared.spot.Spot.{Spot}
use Rattle.bforest_trees.specs.declared.reader.Mark.{Mark}
use Rattle.bforest_trees.specs.declared.reader.Reader.{Reader}
use Rattle.std.specs.Prelude.{List, [], drop, if◌then◌else◌, length, true, ◌++◌, ◌<◌, ◌∷◌, ◌≡◌, ◌≤◌, ℕ}

module _ {K X : Type 0} where
  -- the entries of a path's tree from the place where it stands
  abbrev pub entries_from : {n : ℕ} → Table K X → Path K X n → List (K × X)
  entries_from table path = drop (spot table (path_root path) path) (list_under table (path_root path))

  -- a path is at the end, or on an entry of a tree of the table
  pub record IsOnOrEnds {n : ℕ} (table : Table K X) (path : Path K X n) : Type 0 where
    pub union : IsUnion n table
    pub stands : (¬ IsAtEnd path) → OnEntry table path

  -- the entries of a spot's leaf and of the leaves behind it
  abbrev pub entries_on : Table K X → ℕ → Spot → List (K × X)
  entries_on table root spot = flat (drop (leaf_place table root spot) (tree_of table.nodes root).leaves)

  -- what is left of the entries from a leaf on, after `index` of them were read: nothing where there is no leaf, and so no key
  abbrev pub unread : List K → ℕ → List (K × X) → List (K × X)
  unread [] index entries = []
  unread (first ∷ keys) index entries = drop index entries

  -- the entries that are left to a reader
  abbrev pub left_of : {n : ℕ} → Table K X → Reader K X n → List (K × X)
  left_of table reader = unread reader.keys.now reader.index (entries_on table reader.root reader.spot)

  -- the spot is that of a leaf of these entries
  pub record IsOnLeaf (table : Table K X) (root : ℕ) (spot : Spot) (entries : List (K × X)) : Type 0 where
    pub place : ℕ
    pub number : ℕ
    pub on : IsSpotAt table root spot place
    pub leaf : IsLeafAt table root place number
    pub entries_are : leaf.entries ≡ entries

  -- a reader holds the keys and the values of the leaf of its spot, or none where it has no leaf
  pub record IsReader {n : ℕ} (table : Table K X) (reader : Reader K X n) : Type 0 where
    pub union : IsUnion n table
    pub entries : List (K × X)
    pub within : reader.index ≤ length entries
    pub leaf : 1 ≤ length entries → IsOnLeaf table reader.root reader.spot entries
    pub none : length entries ≡ 0 → HasNoParent reader.spot
    pub keys : reader.keys.now ≡ entry_keys entries
    pub vals : reader.vals.now ≡ entry_items entries

  -- the entries that are left where a reader stopped
  abbrev pub behind : Table K X → Mark → List (K × X)
  behind table mark = if mark.some then drop mark.index (entries_on table mark.root mark.spot) else []

  -- the next entry is in the leaf of a mark's spot, whose tree has these leaves
  pub record IsMarkOn (table : Table K X) (mark : Mark) : Type 0 where
    pub place : ℕ
    pub on : IsSpotAt table mark.root mark.spot place
    pub before : List (LevelNode K X)
    pub number : ℕ
    pub entries : List (K × X)
    pub after : List (LevelNode K X)
    pub leaves_are : (tree_of table.nodes mark.root).leaves ≡ before ++ node number entries ∷ after
    pub at : length before ≡ place
    pub within : mark.index < length entries

  -- a reader stopped on an entry, or nothing is left
  abbrev pub IsMark : Table K X → Mark → Type 0
  IsMark table mark = mark.some ≡ true → IsMarkOn table mark

module _ {K X : Type 0} (most : ℕ) (table : Table K X) (left : List (K × X)) where
  -- the spot is that of this leaf, and `left` are the entries of the leaf and of those behind it
  pub record Opens (root : ℕ) (spot : Spot) (number : ℕ) : Type 0 where
    pub union : IsUnion most table
    pub place : ℕ
    pub on : IsSpotAt table root spot place
    pub leaf : IsLeafAt table root place number
    pub left_is : left ≡ flat (drop place (tree_of table.nodes root).leaves)

module _ {K X : Type 0} {n : ℕ} (table : Table K X) (left : List (K × X)) where
  -- `left` are the entries left to a reader, and the first of them is in the leaf that the reader holds
  pub record Entered (reader : Reader K X n) : Type 0 where
    pub left_is : left ≡ left_of table reader
    pub reader_is : IsReader table reader
    pub within : reader.index < length reader.keys.now
    pub same : length reader.keys.now ≡ length reader.vals.now
