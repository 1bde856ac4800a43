use Rattle.bforest.proofs.Clients.{greater-from}
use Rattle.bforest.proofs.Loops.{none-left, sweeps-ended, sweeps-fewer, sweeps-removed}
use Rattle.bforest.specs.Cursor.{entries, spot}
use Rattle.bforest.specs.Entries.{IsIncreasing}
use Rattle.joining_ranges_example.proofs.sweep.remove_up_to.Goals as goal
use Rattle.std.proofs.Common.{ap, subst, sym, ◌∙◌}
use Rattle.std.specs.Ordering.{is_gt}

pub loop-entry-preserved : goal.loop-entry-preserved
loop-entry-preserved g c = sweeps-removed g.C.Comparator.order (λ x. is_gt (g.C.Comparator.order c.args.comp.now x.0 c.args.last)) c.loop-entry.invariant (sym c.in-Some.ensures.entry) c.remove.new.self c.remove.ensures.removed
    (ap is_gt (sym c.cmp.ensures) ∙ sym c.is_gt.ensures ∙ c.if-is_gt.false) c.remove.ensures.goes

pub loop-entry-smaller : goal.loop-entry-smaller
loop-entry-smaller g c = sweeps-fewer g.C.Comparator.order (λ x. is_gt (g.C.Comparator.order c.args.comp.now x.0 c.args.last)) c.loop-entry.invariant (sym c.in-Some.ensures.entry) c.remove.new.self c.remove.ensures.removed

pub returns-then-is_gt-clause-list : goal.returns-then-is_gt-clause-list
returns-then-is_gt-clause-list g c =
    let s = c.loop-entry.invariant in
    sweeps-ended g.C.Comparator.order (λ x. is_gt (g.C.Comparator.order c.args.comp.now x.0 c.args.last)) s (greater-from (g.C.Comparator.order c.args.comp.now) (g.met.C.Comparator.total c.args.comp.now) c.args.last (entries c.loop-entry.cursor) (spot c.loop-entry.cursor) c.in-Some.entry
    (subst (λ x. IsIncreasing (g.C.Comparator.order x) (entries c.loop-entry.cursor)) (s.changed.goes.comparator ∙ c.requires.same_order) s.changed.goes.valid.increasing) (sym c.in-Some.ensures.entry) (ap is_gt (sym c.cmp.ensures) ∙ sym c.is_gt.ensures ∙ c.if-is_gt.true))

pub returns-in_default-clause-list : goal.returns-in_default-clause-list
returns-in_default-clause-list g c = sweeps-ended g.C.Comparator.order (λ x. is_gt (g.C.Comparator.order c.args.comp.now x.0 c.args.last)) c.loop-entry.invariant
    (none-left g.C.Comparator.order (λ x. is_gt (g.C.Comparator.order c.args.comp.now x.0 c.args.last)) (entries c.loop-entry.cursor) (spot c.loop-entry.cursor) (sym c.entry.ensures.entry ∙ c.in_default.is))
