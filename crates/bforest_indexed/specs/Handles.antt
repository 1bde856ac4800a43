-- A list of handles that grows by empty ones.
use Rattle.std.specs.List.{AllByRecursion}
use Rattle.std.specs.Prelude.{List, length, max, ◌*◌, ◌++◌, ◌≡◌, ◌≤◌, ℕ}

-- Memory for `before` handles became memory for `after`, where n in all were to have some: none is given back, none is
-- taken where what was held suffices, and never for more than twice as many.
pub record Holds (n before after : ℕ) : Type 0 where
  pub grows : before ≤ after
  pub suffices : n ≤ before → after ≡ before
  pub bounded : after ≤ max before (2 * n)

-- ys is xs and then n values that pass a test
pub record Adds {H : Type 0} (passes : H → Type 0) (xs : List H) (n : ℕ) (ys : List H) : Type 0 where
  pub added : List H
  pub each : AllByRecursion passes added
  pub count : length added ≡ n
  pub items : ys ≡ xs ++ added
