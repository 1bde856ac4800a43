use Rattle.bforest_tests.proofs.Stepping.{back-moves}
use Rattle.bforest_tests.proofs.callers.cursors.peek_next_mut.Goals as goal
use Rattle.std.proofs.Common.{sym, ◌∙◌}

pub returns-clause-stays : goal.returns-clause-stays
returns-clause-stays g c = λ some. back-moves g.C.Comparator.order c.args.cursor.now c.next.new.self c.prev.new.self c.in_ok-next.next (sym c.next.ensures.value ∙ c.in_ok-next.was) c.next.ensures.moves c.prev.ensures.moves
