use Rattle.bforest_trees.specs.Layout.{left_of}
use Rattle.bforest_trees.specs.Merge.{Gathers, GoesOn}
use Rattle.bforest_trees.specs.Union.{united}
use Rattle.bforest_trees.proofs.source.next_union_leaf.Given as goal
use Rattle.std.proofs.Common.{◌-◌, ◌≤◌}

-- the leaf has `index` entries of the union, those that were taken off
abbrev pub invariant-loop-index : goal.invariant-loop-index
invariant-loop-index g l = GoesOn l.pool (g.C.Comparator.order l.comp) l.fn.first l.first × GoesOn l.pool (g.C.Comparator.order l.comp) l.fn.second l.second
    × Gathers (united (g.C.Comparator.order l.comp) (left_of l.pool l.fn.first) (left_of l.pool l.fn.second)) (united (g.C.Comparator.order l.comp) (left_of l.pool l.first) (left_of l.pool l.second)) l.leaf l.index
    × (l.index ≤ l.count)

abbrev pub decreases-loop-index : goal.decreases-loop-index
decreases-loop-index g l = l.count - l.index
