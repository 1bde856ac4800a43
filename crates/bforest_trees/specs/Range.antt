-- What is left of a range: the entries that are held in the leaf of each end, and those of the leaves between.
use Rattle.bforest_core.specs.Levels.{flat}
use Rattle.bforest_core.specs.Spots.{IsSpotAt, leaf_count, leaf_place}
use Rattle.bforest_core.specs.Trees.{is_root, tree_of}
use Rattle.bforest_nodes.specs.Entries.{place}
use Rattle.bforest_trees.specs.Bounds.{end_place}
use Rattle.bforest_trees.specs.Forest.{Forest}
use Rattle.bforest_trees.specs.declared.trees.range.Ends.{Ends}
use Rattle.bforest_trees.specs.declared.trees.range.Limit.{Limit}
use Rattle.std.specs.Prelude.{IsTrue, List, None, Option, Some, [], drop, false, if◌then◌else◌, length, slice_range, suc, true, ◌++◌, ◌∷◌, ◌≡◌, ◌≤◌, ℕ}
use Rattle.std.specs.declared.cmp.Ordering.{Ordering}
use Rattle.std.specs.declared.ops.Bound.TheVariants.{Excluded, Included, Unbounded}
use Rattle.std.specs.declared.ops.Bound.{Bound}

-- the root of a handle's tree
abbrev pub root_in : Option ℕ → ℕ
root_in None = 0
root_in (Some root) = root

module _ {K : Type 0} where
  -- the place where a range starts, and the one where it ends, if it has a bound there
  abbrev pub limit_of_start : Bound K → Option (Limit K)
  limit_of_start (Included key) = Some (record { key = key; is_behind = false })
  limit_of_start (Excluded key) = Some (record { key = key; is_behind = true })
  limit_of_start Unbounded = None

  abbrev pub limit_of_end : Bound K → Option (Limit K)
  limit_of_end (Included key) = Some (record { key = key; is_behind = true })
  limit_of_end (Excluded key) = Some (record { key = key; is_behind = false })
  limit_of_end Unbounded = None

module _ {K X : Type 0} where
  -- the place of a limit in a list
  abbrev pub limit_place : (K → K → Ordering) → Limit K → List (K × X) → ℕ
  limit_place cmp limit es = if limit.is_behind then end_place cmp (Included limit.key) es else place cmp es limit.key

  -- keys and values side by side, as far as both go
  abbrev pub pairs : List K → List X → List (K × X)
  pairs [] vals = []
  pairs (key ∷ keys) [] = []
  pairs (key ∷ keys) (val ∷ vals) = (key, val) ∷ pairs keys vals

  -- the entries that are left in the front's leaf
  abbrev pub front_held : Ends K X → List (K × X)
  front_held ends = drop ends.index (pairs ends.keys.now ends.vals.now)

  -- the entries that are left in the back's leaf
  abbrev pub back_held : Ends K X → List (K × X)
  back_held ends = pairs ends.back_keys.now ends.back_vals.now

  -- the place of the leaf behind the front's: the first where the front has no leaf
  abbrev pub leaf_behind : Forest K X → ℕ → Ends K X → ℕ
  leaf_behind f root ends = if ends.has_front then suc (leaf_place f root ends.spot) else 0

  -- the place of the back's leaf: the number of leaves where the back has none
  abbrev pub back_leaf : Forest K X → ℕ → Ends K X → ℕ
  back_leaf f root ends = if ends.has_back then leaf_place f root ends.back_spot else leaf_count f root

  -- the entries of the leaves between those of the ends
  abbrev pub left_between : Forest K X → ℕ → Ends K X → List (K × X)
  left_between f root ends = if ends.is_one then [] else flat (slice_range (tree_of f.nodes root).leaves (leaf_behind f root ends) (back_leaf f root ends))

  -- the entries that are left in the list of a handle
  unfoldable pub left_in : Forest K X → Option ℕ → Ends K X → List (K × X)
  left_in f h ends = front_held ends ++ (left_between f (root_in h) ends ++ back_held ends)

  -- leaves between those of the ends may have entries: each end that has a leaf has its place, and the front's is in front of the back's
  pub record IsOpen (f : Forest K X) (root : ℕ) (ends : Ends K X) : Type 0 where
    pub root_is : IsTrue (is_root f.nodes root)
    pub front : ends.has_front ≡ true → IsSpotAt f root ends.spot (leaf_place f root ends.spot)
    pub back : ends.has_back ≡ true → IsSpotAt f root ends.back_spot (leaf_place f root ends.back_spot)
    pub ordered : leaf_behind f root ends ≤ back_leaf f root ends

  -- no end has a leaf, and all entries are left
  pub record IsFresh (ends : Ends K X) : Type 0 where
    pub keys : ends.keys.now ≡ []
    pub back_keys : ends.back_keys.now ≡ []
    pub front : ends.has_front ≡ false
    pub back : ends.has_back ≡ false
    pub one : ends.is_one ≡ false

  -- each key that is held has its value, and entries that are not in the front's leaf are there only where a tree has them
  pub record IsRange (f : Forest K X) (h : Option ℕ) (ends : Ends K X) : Type 0 where
    pub paired : length ends.keys.now ≤ length ends.vals.now
    pub back_paired : length ends.back_keys.now ≤ length ends.back_vals.now
    pub one : ends.is_one ≡ true → ends.back_keys.now ≡ []
    pub between : ends.is_one ≡ false → (root : ℕ) × (h ≡ Some root) × IsOpen f root ends
