use Rattle.bforest.proofs.Loops.{Changed}
use Rattle.bforest.specs.Cursor.{comparator, entries}
use Rattle.bforest.specs.Entries.{put_all}
use Rattle.bforest_tests.proofs.callers.loops.put_all_by_cursor.Given as goal
use Rattle.std.proofs.Common.{take, ◌≡◌}

abbrev pub invariant-loop-entry : goal.invariant-loop-entry
invariant-loop-entry g l = Changed g.C.Comparator.order l.fn.cursor l.cursor × (entries l.cursor ≡ put_all (g.C.Comparator.order (comparator l.fn.cursor)) (entries l.fn.cursor) (take l.entry-index l.added))
