use Rattle.bforest_nodes.proofs.comparator.UnitComparator.upper_bound.Given as goal
use Rattle.bforest_nodes.specs.Search.{count_up_to}
use Rattle.std.proofs.Common.{take, ◌≡◌}

-- `count` counts the keys before the index that are not greater
abbrev pub invariant-loop-x : goal.invariant-loop-x
invariant-loop-x g l = l.count ≡ count_up_to g.K.Ord.cmp (take l.x-index l.s) l.k
