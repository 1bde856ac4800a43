-- A pool whose tree, if there is one, has its keys in order.
use Rattle.std.specs.Prelude.{ℕ, IsTrue, Option, IfSome}
use Rattle.std.specs.Ordering.{nat_cmp}
use Rattle.bforest_nodes.specs.Entries.{IsIncreasing}
use Rattle.bforest_core.specs.Paths.{IsAtEnd, OnEntry, list_under}
use Rattle.bforest_core.specs.Table.{Table}
use Rattle.bforest_core.specs.Trees.{IsUnion, is_root}
use Rattle.bforest_core.specs.declared.path.Path.{Path}

-- the number is a root, and the keys of its tree increase
pub record IsOrderedAt (table : Table ℕ ℕ) (root : ℕ) : Type 0 where
  pub root_is : IsTrue (is_root table.nodes root)
  pub increasing : IsIncreasing nat_cmp (list_under table root)

-- the pool is a union of trees, and the root, if there is one, has a tree whose keys increase
pub record IsOrdered (most : ℕ) (table : Table ℕ ℕ) (root : Option ℕ) : Type 0 where
  pub union : IsUnion most table
  pub ordered : IfSome root (λ number. IsOrderedAt table number)

-- the path stands on an entry, or at the end
abbrev pub CanGoOn : {n : ℕ} → Table ℕ ℕ → Path ℕ ℕ n → Type 0
CanGoOn table path = (¬ IsAtEnd path) → OnEntry table path
