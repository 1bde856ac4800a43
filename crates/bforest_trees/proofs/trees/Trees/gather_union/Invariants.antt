use Rattle.bforest_trees.proofs.unions.Merging.{Gathering}
use Rattle.bforest_trees.proofs.trees.Trees.gather_union.Given as goal
use Rattle.bforest_trees.specs.Forest.{list_of}
use Rattle.bforest_trees.specs.Layout.{IsReader, left_of}
use Rattle.std.proofs.Common.{length, vec_len, ◌+◌, ◌≡◌}

-- the entries that were taken off are counted, and in the vector as far as memory was had
abbrev pub invariant-loop-entry : goal.invariant-loop-entry
invariant-loop-entry g l = IsReader l.self l.first × IsReader l.self l.second
    × Gathering (g.C.Comparator.order l.comp) (list_of l.fn.self l.fn.handle) (list_of l.fn.self l.fn.other) l.union.items l.entries (left_of l.self l.first) (left_of l.self l.second) × (vec_len l.union ≡ length l.union.items)

-- the number of entries that are left
abbrev pub decreases-loop-entry : goal.decreases-loop-entry
decreases-loop-entry g l = length (left_of l.self l.first) + length (left_of l.self l.second)
