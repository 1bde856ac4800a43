-- The nodes of a handle's tree, where its list has few entries.
use Rattle.bforest.specs.Forest.{Forest, IsFitFor, list_at, list_of, sizes_at, sizes_of}
use Rattle.bforest.specs.Room.{IsEnoughFor, node_count}
use Rattle.std.proofs.Common.{None, Option, Some, arith, length, ◌≤◌, ℕ}

pub map-within : {K X : Type 0} (most : ℕ) (f : Forest K X) (h : Option ℕ) (entries nodes : ℕ) → ((n : ℕ) → IsFitFor most (length (list_at f n)) (sizes_at f n))
    → IsEnoughFor most entries nodes → length (list_of f h) ≤ entries → node_count (sizes_of f h) ≤ nodes
map-within most f None entries nodes fit enough few = omega arith
map-within most f (Some n) entries nodes fit enough few = enough (length (list_at f n)) (sizes_at f n) few (fit n)
