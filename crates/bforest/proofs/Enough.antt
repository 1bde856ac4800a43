-- How many nodes are enough for some entries, for callers.
use Rattle.bforest.specs.Room.{IsEnoughFor, IsMetBy}
use Rattle.std.proofs.Common.{arith, ◌≤◌, ℕ}

-- the most nodes never decrease as the entries grow in number
pub never-fewer : (most entries fewer nodes least : ℕ) → IsEnoughFor most entries nodes → IsMetBy most fewer least → fewer ≤ entries → least ≤ nodes
never-fewer most entries fewer nodes least enough met within = omega (arith, enough fewer met.0 within met.1, met.2)
