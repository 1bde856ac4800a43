use Rattle.bforest_trees.proofs.unions.Merging.{Seeking}
use Rattle.bforest_trees.proofs.trees.Trees.new_entries.Given as goal
use Rattle.bforest_trees.specs.Forest.{list_of}
use Rattle.bforest_trees.specs.Layout.{IsReader, left_of}
use Rattle.std.proofs.Common.{length, ◌+◌}

-- the new ones among the entries that were taken off are told
abbrev pub invariant-loop-order : goal.invariant-loop-order
invariant-loop-order g l = IsReader l.self l.first × IsReader l.self l.second
    × Seeking (g.C.Comparator.order l.comp) (list_of l.fn.self l.fn.handle) (list_of l.fn.self l.fn.other) l.new (left_of l.self l.first) (left_of l.self l.second)

-- the number of entries that are left
abbrev pub decreases-loop-order : goal.decreases-loop-order
decreases-loop-order g l = length (left_of l.self l.first) + length (left_of l.self l.second)
