use Rattle.bforest_trees.proofs.unions.Merging.{Comparing}
use Rattle.bforest_trees.proofs.trees.Trees.are_apart.Given as goal
use Rattle.bforest_trees.specs.Forest.{list_of}
use Rattle.bforest_trees.specs.Layout.{IsReader, left_of}
use Rattle.std.proofs.Common.{false, length}

-- the entries that were taken off are not among the others
abbrev pub invariant-loop-entry : goal.invariant-loop-entry
invariant-loop-entry g l = IsReader l.self l.keys × IsReader l.self l.others
    × Comparing (g.C.Comparator.order l.comp) (list_of l.fn.self l.fn.handle) (list_of l.fn.self l.fn.other) false (left_of l.self l.keys) (left_of l.self l.others)

-- the number of entries that are left
abbrev pub decreases-loop-entry : goal.decreases-loop-entry
decreases-loop-entry g l = length (left_of l.self l.keys)
