use Rattle.bforest_trees.specs.Layout.{IsReader, left_of}
use Rattle.bforest_trees.specs.Merge.{Gathers}
use Rattle.bforest_trees.proofs.source.next_tree_leaf.Given as goal
use Rattle.std.proofs.Common.{◌-◌, ◌≡◌, ◌≤◌}

-- the leaf has `index` entries, those that were taken off
abbrev pub invariant-loop-index : goal.invariant-loop-index
invariant-loop-index g l = IsReader l.pool l.reader × Gathers (left_of l.pool l.fn.reader) (left_of l.pool l.reader) l.leaf l.index × (l.reader.root ≡ l.fn.reader.root)
    × (l.index ≤ l.count)

abbrev pub decreases-loop-index : goal.decreases-loop-index
decreases-loop-index g l = l.count - l.index
