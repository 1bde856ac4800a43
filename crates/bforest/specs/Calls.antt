-- What a call that may change one map returns and leaves, as `bforest_trees` defines it.
pub use Rattle.bforest_trees.specs.Calls.{Clears, Clones, Compacts, Filters, GetsOrInserts, Inserts, Intersects, KeepsFrom, Loads, Pops, Removes, RemovesAt, RemovesBetween, Reserves, SameLevels, Shifts, SplitsAt, SplitsOff, Subtracts, Unites, Updates, UpdatesOrInserts, as_inserted, need_of_split, need_of_union, removals, sizes_behind, sizes_outside, truncation, without_leaves, without_range}
pub use Rattle.bforest_trees.specs.Shift.{MayRekey}
-- The nodes of a load, and a place where entries do not increase.
pub use Rattle.bforest_core.specs.Packed.{ArePacked, fewest}
pub use Rattle.bforest_trees.specs.Order.{IsUnorderedAt}
