use Rattle.bforest_trees.proofs.unions.Merging.{Comparing}
use Rattle.bforest_trees.proofs.trees.Trees.are_among.Given as goal
use Rattle.bforest_trees.specs.Forest.{list_of}
use Rattle.bforest_trees.specs.Layout.{IsReader, left_of}
use Rattle.std.proofs.Common.{length, true, ◌+◌}

-- the entries that were taken off are among the others
abbrev pub invariant-loop-first : goal.invariant-loop-first
invariant-loop-first g l = IsReader l.self l.first × IsReader l.self l.second
    × Comparing (g.C.Comparator.order l.comp) (list_of l.fn.self l.fn.handle) (list_of l.fn.self l.fn.other) true (left_of l.self l.first) (left_of l.self l.second)

-- the number of entries that are left
abbrev pub decreases-loop-first : goal.decreases-loop-first
decreases-loop-first g l = length (left_of l.self l.first) + length (left_of l.self l.second)
