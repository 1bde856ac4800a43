-- Short names of the types of rows.
use Rattle.std.proofs.Common.{ℕ, List}
use Rattle.bforest_core.specs.Levels.{LevelNode}

-- the nodes of a level, from left to right
abbrev pub Row : Type 0 → Type 0 → Type 0
Row K X = List (LevelNode K X)

-- the rows above a level, from the lowest up
abbrev pub Rows : Type 0 → Type 0
Rows K = List (List (LevelNode K ℕ))

-- nodes as entries of the level above: first keys and numbers
abbrev pub Heads : Type 0 → Type 0
Heads K = List (K × ℕ)
