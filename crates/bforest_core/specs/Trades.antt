-- What a change of a table does to its slots: the one account of insertions, removals and single writes.
use Rattle.std.specs.Prelude.{◌≡◌, ℕ, List, [], ◌++◌, length, slice_get}
use Rattle.bforest_nodes.specs.Content.{IsFree}
use Rattle.bforest_core.specs.Table.{Table}
use Rattle.bforest_core.specs.Place.{count}
use Rattle.bforest_core.specs.Trees.{slot, Every}

module _ {K V : Type 0} where
  -- the nodes with the numbers `was` became those with the numbers `are`: `taken` left the front of the free list, or
  -- `freed`, which are free now, came to it, and no other slot changed. A change either takes or frees: one of these two is empty
  pub record Trades (old new : Table K V) (was are taken freed : List ℕ) : Type 0 where
    pub numbers_are : (number : ℕ) → count number (freed ++ are) ≡ count number (taken ++ was)
    pub others : (number : ℕ) → count number (taken ++ was) ≡ 0 → slice_get new.nodes number ≡ slice_get old.nodes number
    pub freed_are : Every (λ (number : ℕ). IsFree (slot new.nodes number)) freed
    pub chain_is : taken ++ new.chain ≡ freed ++ old.chain
    pub slots_are : length new.nodes ≡ length old.nodes
    pub limit_is : new.limit ≡ old.limit
    pub memory_is : new.memory ≡ old.memory

  -- no node is freed
  abbrev pub Draws : Table K V → Table K V → List ℕ → List ℕ → List ℕ → Type 0
  Draws old new was are taken = Trades old new was are taken []

  -- no node is taken
  abbrev pub Frees : Table K V → Table K V → List ℕ → List ℕ → List ℕ → Type 0
  Frees old new was are freed = Trades old new was are [] freed
