use Rattle.bforest_trees.proofs.merge.finds.Given as goal
use Rattle.bforest_trees.specs.Layout.{left_of}
use Rattle.bforest_trees.specs.Merge.{Passes}
use Rattle.std.proofs.Common.{length}

-- the entries that were removed are less than the key
abbrev pub invariant-loop-key : goal.invariant-loop-key
invariant-loop-key g l = Passes l.trees (g.C.Comparator.order l.comp) l.key l.fn.reader l.reader

-- the number of entries that are left
abbrev pub decreases-loop-key : goal.decreases-loop-key
decreases-loop-key g l = length (left_of l.trees l.reader)
