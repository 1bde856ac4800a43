use Rattle.bforest.specs.Cursor.{entries, spot}
use Rattle.bforest_tests.proofs.Ranges.{Joins}
use Rattle.bforest_tests.proofs.callers.loops.join_from.Given as goal
use Rattle.std.proofs.Common.{length, ◌-◌}

abbrev pub invariant-loop-range : goal.invariant-loop-range
invariant-loop-range g l = Joins g.C.Comparator.order (g.C.Comparator.order l.fn.comp) l.fn.cursor l.cursor l.end

abbrev pub decreases-loop-range : goal.decreases-loop-range
decreases-loop-range g l = length (entries l.cursor) - spot l.cursor
