-- Where a path stands in the list of a handle, and where a way leads for an absent key.
use Rattle.bforest_trees.specs.Forest.{Becomes, Forest, free_of, list_at, list_of, memory_of, sizes_of, slots_of}
use Rattle.bforest_core.specs.Paths.{IsAtEnd, StandsAt, list_under, spot}
use Rattle.bforest_core.specs.Ways.{PlacedOn}
use Rattle.bforest_nodes.specs.Entries.{IsIncreasing, place as place_of, value_for, with_value}
use Rattle.bforest_core.specs.declared.path.Path.{Path}
use Rattle.bforest_core.specs.declared.path.way.Way.{Way}
use Rattle.std.specs.Cmp.{IsTotalOrder}
use Rattle.std.specs.Prelude.{None, Option, Some, [], length, ◌<◌, ◌≡◌, ◌≢◌, ℕ}
use Rattle.std.specs.declared.cmp.Ordering.{Ordering}

module _ {K X : Type 0} where
  -- the path stands at this place of a handle's list, on an entry or at the end; an empty handle has only the end
  abbrev pub IsSpot : {n : ℕ} → Forest K X → Option ℕ → Path K X n → ℕ → Type 0
  IsSpot f None path place = IsAtEnd path × (place ≡ 0)
  IsSpot f (Some root) path place = StandsAt f root path place

  -- the place where a path stands, from its leaf and its index there
  abbrev pub spot_of : {n : ℕ} → Forest K X → Option ℕ → Path K X n → ℕ
  spot_of f None path = 0
  spot_of f (Some root) path = spot f root path

  -- each path in the list of a handle stands at the place that `spot_of` computes
  abbrev pub IsComputed : ℕ → Forest K X → Option ℕ → Type 0
  IsComputed n f h = (path : Path K X n) (place : ℕ) → IsSpot f h path place → spot_of f h path ≡ place

  -- the place where a path stands in the list of a handle
  pub record AtSpot {n : ℕ} (f : Forest K X) (h : Option ℕ) (path : Path K X n) : Type 0 where
    pub place : ℕ
    pub spot : IsSpot f h path place

  -- the place of the entry on which a path stands
  pub record OnSpot {n : ℕ} (f : Forest K X) (h : Option ℕ) (path : Path K X n) : Type 0 where
    pub place : ℕ
    pub spot : IsSpot f h path place
    pub within : place < length (list_of f h)

  -- w was written as the value of the entry where the path stands: one change of the handle's list, in nodes of
  -- the same sizes; the path stands where it stood, and the number of slots and the memory stay
  pub record IsWritten {n : ℕ} (f f' : Forest K X) (h : Option ℕ) (path : Path K X n) (place : ℕ) (w : X) : Type 0 where
    pub becomes : Becomes f h f' h (with_value (list_of f h) place w)
    pub sizes : sizes_of f' h ≡ sizes_of f h
    pub slots : slots_of f' ≡ slots_of f
    pub free : free_of f' ≡ free_of f
    pub memory : memory_of f' ≡ memory_of f
    pub spot : IsSpot f' h path place
    pub computed : IsComputed n f' h

  -- the list of a root increases under the order and lacks the key, which may be inserted at an index of the leaf of the way
  pub record IsAbsentOn (cmp : K → K → Ordering) (f : Forest K X) (root : ℕ) (way : Way) (index : ℕ) (k : K) : Type 0 where
    pub total : IsTotalOrder cmp
    pub live : list_at f root ≢ []
    pub increasing : IsIncreasing cmp (list_at f root)
    pub none : value_for cmp (list_under f root) k ≡ None
    pub placed : PlacedOn f root way index (place_of cmp (list_under f root) k)
