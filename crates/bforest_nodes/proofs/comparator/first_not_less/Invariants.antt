use Rattle.std.proofs.Common.{false, length, true}
use Rattle.std.specs.Ordering.{is_lt}
use Rattle.bforest_nodes.proofs.Scanned.{Scanning}
use Rattle.bforest_nodes.proofs.comparator.first_not_less.Given as goal

-- the `back - 2` keys before the last were tested
abbrev pub invariant-loop-back : goal.invariant-loop-back
invariant-loop-back g l = Scanning (λ x. is_lt (g.K.Ord.cmp x l.k)) true false l.row (length l.row) l.at l.back
