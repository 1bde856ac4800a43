-- The sizes after a sequence of insertions.
use Rattle.std.specs.Prelude.{ℕ, List, [], ◌∷◌}
use Rattle.bforest_core.specs.Sizes.{growth}

-- the sizes after insertions at these places in this order, where leaves have at most n
abbrev pub grown : ℕ → List ℕ → List (List ℕ) → List (List ℕ)
grown n [] levels = levels
grown n (place ∷ places) levels = grown n places (growth n place levels)
