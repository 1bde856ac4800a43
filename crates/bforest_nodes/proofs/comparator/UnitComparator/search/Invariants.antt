use Rattle.bforest_nodes.proofs.comparator.UnitComparator.search.Given as goal
use Rattle.bforest_nodes.specs.Search.{count_less}
use Rattle.std.proofs.Common.{take, ◌≡◌}

-- `less` counts the lesser keys before the index
abbrev pub invariant-loop-x : goal.invariant-loop-x
invariant-loop-x g l = l.less ≡ count_less g.K.Ord.cmp (take l.x-index l.s) l.k
