-- How many nodes a tree of so many entries can have.
use Rattle.bforest.specs.Forest.{Forest, IsFitAbove, IsFitFor, free_of, limit_of, list_of, sizes_of, slots_of}
use Rattle.std.specs.Prelude.{List, Option, length, ◌+◌, ◌≡◌, ◌≤◌, ℕ}
-- how many nodes a tree of these sizes has
pub use Rattle.bforest_core.specs.Change.{node_count}

-- no fit tree of `entries` entries or fewer, whose leaves have at most `most`, has more nodes than `nodes`
abbrev pub IsEnoughFor : ℕ → ℕ → ℕ → Type 0
IsEnoughFor most entries nodes = (n : ℕ) (sizes : List (List ℕ)) → n ≤ entries → IsFitFor most n sizes → node_count sizes ≤ nodes

-- a fit tree of `entries` entries, whose leaves have at most `most`, has `nodes` nodes
abbrev pub IsMetBy : ℕ → ℕ → ℕ → Type 0
IsMetBy most entries nodes = (sizes : List (List ℕ)) × IsFitFor most entries sizes × (node_count sizes ≡ nodes)

-- a fit tree of `entries` entries or fewer, whose leaves have at most `most`, has at most `nodes` nodes, and one has so many
abbrev pub IsMostFor : ℕ → ℕ → ℕ → Type 0
IsMostFor most entries nodes = IsEnoughFor most entries nodes × IsMetBy most entries nodes

-- no level of `count` nodes or fewer has more nodes than `nodes` together with fit levels above it
abbrev pub IsEnoughAbove : ℕ → ℕ → Type 0
IsEnoughAbove count nodes = (n : ℕ) (levels : List (List ℕ)) → n ≤ count → IsFitAbove n levels → n + node_count levels ≤ nodes

-- a level of `count` nodes has `nodes` nodes together with some fit levels above it
abbrev pub IsMetAbove : ℕ → ℕ → Type 0
IsMetAbove count nodes = (levels : List (List ℕ)) × IsFitAbove count levels × (count + node_count levels ≡ nodes)

module _ {K V : Type 0} where
  -- the sizes of the tree of a handle fit its list
  abbrev pub IsFitAt : ℕ → Forest K V → Option ℕ → Type 0
  IsFitAt most f h = IsFitFor most (length (list_of f h)) (sizes_of f h)

  -- f and its handle h became f' and h', whose sizes fit its list: slots were added and freed as the tree has nodes more or less, and none
  -- past the limit
  pub record Balances (most : ℕ) (f : Forest K V) (h : Option ℕ) (f' : Forest K V) (h' : Option ℕ) : Type 0 where
    pub fit : IsFitAt most f' h'
    pub nodes : slots_of f' + free_of f + node_count (sizes_of f h) ≡ slots_of f + free_of f' + node_count (sizes_of f' h')
    pub slots : slots_of f ≤ slots_of f'
    pub within : slots_of f ≤ limit_of f → slots_of f' ≤ limit_of f'
