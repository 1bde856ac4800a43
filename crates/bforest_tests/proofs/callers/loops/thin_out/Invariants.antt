use Rattle.bforest.specs.Cursor.{entries, spot}
use Rattle.bforest_tests.proofs.Thinned.{Thins}
use Rattle.bforest_tests.proofs.callers.loops.thin_out.Given as goal
use Rattle.std.proofs.Common.{length, ◌-◌}

abbrev pub invariant-loop-cursor : goal.invariant-loop-cursor
invariant-loop-cursor g l = Thins g.C.Comparator.order l.fn.cursor l.cursor

abbrev pub decreases-loop-cursor : goal.decreases-loop-cursor
decreases-loop-cursor g l = length (entries l.cursor) - spot l.cursor
