use Rattle.bforest_trees.proofs.keep.keep.Given as goal
use Rattle.bforest_trees.proofs.unions.Keeping.{Keeping}
use Rattle.bforest_trees.specs.Layout.{entries_from}
use Rattle.std.proofs.Common.{length}

-- the entries in front of the path are kept or removed
abbrev pub invariant-loop-mine : goal.invariant-loop-mine
invariant-loop-mine g l = Keeping g.row.N (g.C.Comparator.order l.comp) l.present l.fn.pool l.fn.root l.fn.other l.pool l.root l.path l.beside l.mine l.theirs l.changed

-- the number of entries that are left
abbrev pub decreases-loop-mine : goal.decreases-loop-mine
decreases-loop-mine g l = length (entries_from l.pool l.path)
