-- What contracts see of a forest and of a handle.
use Rattle.bforest_nodes.specs.Entries.{IsIncreasing}
use Rattle.std.specs.Prelude.{Option, ℕ}
use Rattle.std.specs.declared.cmp.Ordering.{Ordering}
-- The words of `bforest_trees`.
pub use Rattle.bforest_trees.specs.Forest.{Becomes, Forest, Gives, GrowsFor, IsAccounted, IsLive, IsTooMany, Keeps, NeedsGrowth, Takes, TakesAndGives, empty, emptied, first_level}
pub use Rattle.bforest_trees.specs.Forest.{free_of, limit_of, list_at, list_of, memory_of, need_of, nodes_at, nodes_of, numbers_below, room_of, sizes_at, sizes_of, sizes_with, sizes_without, slots_of}
-- Whether the sizes of a tree are fit, how a call changes them, and how many nodes an insertion or a split needs.
pub use Rattle.bforest_core.specs.Change.{severed}
pub use Rattle.bforest_core.specs.Sizes.{IsFitAbove, IsFitFor, IsFitLevel, back, backs, detached, filled, filled_above, filled_levels, front, fronts, gain_above, growth, inner_gain, leaf_gain, lessened, loss, need, need_above, shrink, truncated}
-- Whether all nodes of each level are full but the last, and how many nodes a tree of such sizes has.
pub use Rattle.bforest_core.specs.Packed.{ArePacked, ArePackedLevels, IsPackedLevel, fewest, nodes_over}

-- the list of a handle may be searched: the handle is live, and its list increases
pub record IsSearchable {K X : Type 0} (cmp : K → K → Ordering) (f : Forest K X) (h : Option ℕ) : Type 0 where
  pub live : IsLive f h
  pub increasing : IsIncreasing cmp (list_of f h)
