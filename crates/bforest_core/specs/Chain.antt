-- How a `NodePool` keeps its free list. No public clause cites this module.
use Rattle.std.specs.Prelude.{◌≡◌, ℕ, ◌≤◌, List, [], ◌∷◌, length, slice_get, nat_eq, Option, Some, None, zero, suc}
use Rattle.std.specs.List.{IsDistinct}
use Rattle.bforest_nodes.specs.Content.{Content, Inner, Leaf, Free, IsLeafCapacity}

module _ {K V : Type 0} where
  -- the next free node that a slot names
  abbrev pub next_of : Option (Content K V) → Option ℕ
  next_of (Some (Free next)) = next
  next_of (Some (Inner keys children)) = None
  next_of (Some (Leaf keys vals)) = None
  next_of None = None

  -- the first `count` numbers of the free list that starts at this one
  abbrev pub chain_from : List (Content K V) → ℕ → Option ℕ → List ℕ
  chain_from nodes zero first = []
  chain_from nodes (suc count) None = []
  chain_from nodes (suc count) (Some node) = node ∷ chain_from nodes count (next_of (slice_get nodes node))

  -- starting at this number, the free nodes name one another in this order, and the last names none
  abbrev pub IsChain : List (Content K V) → List ℕ → Option ℕ → Type 0
  IsChain nodes [] first = first ≡ None
  IsChain nodes (node ∷ rest) first =
      (next : Option ℕ) × (first ≡ Some node) × (slice_get nodes node ≡ Some (Free next)) × IsChain nodes rest next

  -- the free list has `free` nodes, no slot is on it twice, and the slots are within the limit
  pub record IsPool (n : ℕ) (nodes : List (Content K V)) (first : Option ℕ) (free limit : ℕ) : Type 0 where
    pub capacity : IsLeafCapacity n
    pub linked : IsChain nodes (chain_from nodes free first) first
    pub counted : length (chain_from nodes free first) ≡ free
    pub distinct : IsDistinct nat_eq (chain_from nodes free first)
    pub slots_within : length nodes ≤ limit
    pub limit_within : limit ≤ 4294967295
