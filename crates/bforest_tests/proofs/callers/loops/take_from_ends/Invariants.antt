use Rattle.bforest_tests.proofs.callers.loops.take_from_ends.Given as goal
use Rattle.std.proofs.Common.{reverse, ◌++◌, ◌≡◌}

abbrev pub invariant-loop-is_front : goal.invariant-loop-is_front
invariant-loop-is_front g l = l.fn.range ≡ l.front.items ++ l.range ++ reverse l.back.items
