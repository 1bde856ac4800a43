-- Steps of keeping the entries of one tree by whether their keys are in another one. No public clause cites this module.
use Rattle.bforest_core.specs.Paths.{StandsAt, StandsOn, list_under, sizes_under}
use Rattle.bforest_core.specs.Table.{Table}
use Rattle.bforest_core.specs.declared.path.Path.{Path}
use Rattle.bforest_nodes.specs.Entries.{IsIncreasing, is_present, place}
use Rattle.bforest_trees.specs.Retain.{Retained, RetainedNone, Stepped, SteppedLast}
use Rattle.bforest_trees.specs.Union.{fits}
use Rattle.std.specs.Prelude.{Bool, IfSome, List, None, Option, Some, false, length, slice_get, suc, true, ◌<◌, ◌≡◌, ◌≤◌, ℕ}
use Rattle.std.specs.declared.cmp.Ordering.{Ordering}

-- whether an entry stays is told by its key alone, and its value stays
pub record Tells {K X : Type 0} (cmp : K → K → Ordering) (present : Bool) (others : List (K × X)) (f : Unit {0}) (k : K) (v : X) (stays : Bool) (w : X) (f' : Unit {0}) : Type 0 where
  pub told : stays ≡ fits present (is_present cmp others k)
  pub same : w ≡ v

module _ {K X : Type 0} {n : ℕ} (cmp : K → K → Ordering) (table : Table K X) (root : ℕ) where
  -- a path stands on an entry that was read, at the place of a key or in front of it, in the list under a root, which increases
  pub record Nears (path : Path K X n) (read : Option (K × X)) (key : K) : Type 0 where
    pub spot : ℕ
    pub at : StandsAt table root path spot
    pub read_is : read ≡ slice_get (list_under table root) spot
    pub low : spot ≤ place cmp (list_under table root) key
    pub up : IsIncreasing cmp (list_under table root)

  -- the path stands at the place of the key, what is there was read, and whether the key is present is told
  pub record Reaches (path : Path K X n) (read : Option (K × X)) (key : K) (found : Bool) : Type 0 where
    pub at : StandsAt table root path (place cmp (list_under table root) key)
    pub read_is : read ≡ slice_get (list_under table root) (place cmp (list_under table root) key)
    pub found_is : found ≡ is_present cmp (list_under table root) key

module _ {K X : Type 0} (most : ℕ) (old new : Table K X) (root : ℕ) where
  -- the entry where a path stood stays, and nothing changed, or it was removed; the path stands at the next one, which was read
  pub record Steps (path path' : Path K X most) (stays : Bool) (result : Option (ℕ × Option (K × X))) : Type 0 where
    pub same_pool : stays ≡ true → new ≡ old
    pub same_root : stays ≡ true → IfSome result (λ left. left.0 ≡ root)
    pub read_is : (place : ℕ) → StandsOn old root path place → IfSome result (λ left. left.1 ≡ slice_get (list_under old root) (suc place))
    pub stepped : (cmp : K → K → Ordering) (present : Bool) (others : List (K × X)) (place : ℕ) (k : K) (v : X) → stays ≡ fits present (is_present cmp others k)
        → StandsOn old root path place → Some (k, v) ≡ slice_get (list_under old root) place
        → IfSome result (λ left. Stepped most (Tells cmp present others) old new root left.0 path' tt tt (list_under old root) (sizes_under old root) place k v)
    pub ended : result ≡ None → (cmp : K → K → Ordering) (present : Bool) (others : List (K × X)) (place : ℕ) (k : K) (v : X) → stays ≡ fits present (is_present cmp others k)
        → StandsOn old root path place → Some (k, v) ≡ slice_get (list_under old root) place
        → SteppedLast most (Tells cmp present others) old new root tt tt (list_under old root) (sizes_under old root) place k v

  -- the entries of the tree under a root were kept by their keys, and whether one was removed is told
  pub record Kept (cmp : K → K → Ordering) (present : Bool) (other : ℕ) (result : Option ℕ) (changed : Bool) : Type 0 where
    pub kept : IfSome result (λ root'. Retained most (Tells cmp present (list_under old other)) old new root root' tt)
    pub ended : result ≡ None → RetainedNone most (Tells cmp present (list_under old other)) old new root tt
    pub same_pool : changed ≡ false → new ≡ old
    pub same_root : changed ≡ false → result ≡ Some root
    pub fewer : changed ≡ true → IfSome result (λ root'. length (list_under new root') < length (list_under old root))
