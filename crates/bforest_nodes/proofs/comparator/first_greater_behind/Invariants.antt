use Rattle.std.proofs.Common.{false, suc, true, ◌+◌}
use Rattle.std.specs.Ordering.{is_gt}
use Rattle.bforest_nodes.proofs.Scanned.{Scanning}
use Rattle.bforest_nodes.proofs.comparator.first_greater_behind.Given as goal

-- the `back - 1` keys before the last one of the half were tested
abbrev pub invariant-loop-back : goal.invariant-loop-back
invariant-loop-back g l = Scanning (λ x. is_gt (g.K.Ord.cmp x l.k)) false true l.row (suc (l.start + l.middle)) l.at (suc l.back)
