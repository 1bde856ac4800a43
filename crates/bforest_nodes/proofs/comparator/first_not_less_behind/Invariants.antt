use Rattle.std.proofs.Common.{false, suc, true, ◌+◌}
use Rattle.std.specs.Ordering.{is_lt}
use Rattle.bforest_nodes.proofs.Scanned.{Scanning}
use Rattle.bforest_nodes.proofs.comparator.first_not_less_behind.Given as goal

-- the `back - 1` keys before the last one of the half were tested
abbrev pub invariant-loop-back : goal.invariant-loop-back
invariant-loop-back g l = Scanning (λ x. is_lt (g.K.Ord.cmp x l.k)) true false l.row (suc (l.start + l.middle)) l.at (suc l.back)
