use Rattle.std.proofs.Common.{take}
use Rattle.bforest_nodes.specs.Entries.{IsIncreasing}
use Rattle.bforest_trees.proofs.order.first_unordered.Given as goal

-- the entries before the next one increase
abbrev pub invariant-loop-next : goal.invariant-loop-next
invariant-loop-next g l = IsIncreasing (g.C.Comparator.order l.order) (take l.next (g.S.Source.list l.entries))
