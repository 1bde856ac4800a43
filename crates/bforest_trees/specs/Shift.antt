-- New keys for the entries of a list from a place on.
use Rattle.bforest_core.specs.Change.{Changes}
use Rattle.bforest_core.specs.Paths.{StandsAt, list_under, sizes_under}
use Rattle.bforest_core.specs.Table.{Table, slot_count}
use Rattle.bforest_core.specs.declared.path.Path.{Path}
use Rattle.bforest_nodes.specs.Entries.{rekeyed}
use Rattle.std.specs.Prelude.{List, Some, [], drop, slice_get, suc, take, ◌++◌, ◌≡◌, ◌≤◌, ◌∷◌, ℕ}

-- the key of each entry from a place on may be handed to a call
abbrev pub MayRekey : {K X : Type 0} → (K → Type 0) → ℕ → List (K × X) → Type 0
MayRekey {K} {X} may place es = (i : ℕ) (e : K × X) → place ≤ i → slice_get es i ≡ Some e → may e.0

module _ {K X : Type 0} (calls : K → K → Type 0) where
  -- each entry got a key that a call with its key returned, and keeps its value
  abbrev pub Rekeys : List (K × X) → List (K × X) → Type 0
  Rekeys [] es' = es' ≡ []
  Rekeys (e ∷ es) [] = ⊥
  Rekeys (e ∷ es) (e' ∷ es') = calls e.0 e'.0 × (e'.1 ≡ e.1) × Rekeys es es'

  -- the entries from a place on of the list under a root got new keys, in the same nodes
  pub record ShiftedUnder (most : ℕ) (old new : Table K X) (root place : ℕ) : Type 0 where
    pub moved : List (K × X)
    pub rekeys : Rekeys (drop place (list_under old root)) moved
    pub changes : Changes most old new root root (take place (list_under old root) ++ moved) (sizes_under old root)
    pub slots : slot_count new ≡ slot_count old
    pub chain : new.chain ≡ old.chain
    pub memory : new.memory ≡ old.memory

-- the entry at a place of the list under a root got this key, and the path went to the next one
pub record StepShifted {K X : Type 0} (most : ℕ) (old new : Table K X) (root : ℕ) (path' : Path K X most) (place : ℕ) (key : K) : Type 0 where
  pub changes : Changes most old new root root (rekeyed (list_under old root) place key) (sizes_under old root)
  pub at : StandsAt new root path' (suc place)
  pub slots : slot_count new ≡ slot_count old
  pub chain : new.chain ≡ old.chain
  pub memory : new.memory ≡ old.memory
