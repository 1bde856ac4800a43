use Rattle.bforest.proofs.Loops.{Sweeps}
use Rattle.bforest.specs.Cursor.{entries}
use Rattle.joining_ranges_example.proofs.sweep.remove_up_to.Given as goal
use Rattle.std.proofs.Common.{length}
use Rattle.std.specs.Ordering.{is_gt}

abbrev pub invariant-loop-entry : goal.invariant-loop-entry
invariant-loop-entry g l = Sweeps g.C.Comparator.order (λ x. is_gt (g.C.Comparator.order l.fn.comp x.0 l.fn.last)) l.fn.cursor l.cursor

abbrev pub decreases-loop-entry : goal.decreases-loop-entry
decreases-loop-entry g l = length (entries l.cursor)
