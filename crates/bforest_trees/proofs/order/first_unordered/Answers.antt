use Rattle.std.proofs.Common.{arith, sym, ap, ◌∙◌}
use Rattle.std.specs.Ordering.{is_lt}
use Rattle.bforest_trees.proofs.Unordered.{ordered-all, ordered-first, ordered-next, unordered-at}
use Rattle.bforest_trees.proofs.order.first_unordered.Goals as goal

pub loop-next-init : goal.loop-next-init
loop-next-init g c = ordered-first (g.C.Comparator.order c.args.order.now) (g.S.Source.list c.args.entries)

pub returns-then-not-is_lt-clause-some : goal.returns-then-not-is_lt-clause-some
returns-then-not-is_lt-clause-some g c = unordered-at (g.C.Comparator.order c.args.order.now) (g.S.Source.list c.args.entries) c.loop-next.next c.loop-next.auto.next c.entry.ensures c.entry-in-loop-next.ensures c.loop-next.invariant
    (ap is_lt (sym c.cmp.ensures) ∙ sym c.is_lt.ensures ∙ c.if-not-is_lt.true)

pub loop-next-preserved : goal.loop-next-preserved
loop-next-preserved g c = ordered-next (g.C.Comparator.order c.args.order.now) (g.S.Source.list c.args.entries) c.loop-next.next c.loop-next.auto.next c.entry.ensures c.entry-in-loop-next.ensures c.loop-next.invariant (g.met.C.Comparator.total c.args.order.now)
    (ap is_lt (sym c.cmp.ensures) ∙ sym c.is_lt.ensures ∙ c.if-not-is_lt.false)

pub returns-clause-none : goal.returns-clause-none
returns-clause-none g c = λ none. ordered-all (g.C.Comparator.order c.args.order.now) (g.S.Source.list c.args.entries) c.loop-next.next c.loop-next.invariant (omega (arith, c.loop-next-test.false, c.len-next-end.ensures))
