use Rattle.std.proofs.Common.{false, length, true}
use Rattle.std.specs.Ordering.{is_gt}
use Rattle.bforest_nodes.proofs.Scanned.{Scanning}
use Rattle.bforest_nodes.proofs.comparator.first_greater.Given as goal

-- the `back - 2` keys before the last were tested
abbrev pub invariant-loop-back : goal.invariant-loop-back
invariant-loop-back g l = Scanning (λ x. is_gt (g.K.Ord.cmp x l.k)) false true l.row (length l.row) l.at l.back
