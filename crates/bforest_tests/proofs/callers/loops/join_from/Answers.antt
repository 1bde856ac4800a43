use Rattle.bforest.specs.Cursor.{entries, spot}
use Rattle.bforest.proofs.Loops.{changed-list, changed-moved, is-past, moved-entries}
use Rattle.bforest_tests.proofs.Ranges.{fewer-both, fewer-on, joined-last, joins-both, joins-first, joins-on, there-within}
use Rattle.bforest_tests.proofs.callers.loops.join_from.Goals as goal
use Rattle.std.proofs.Common.{ap, arith, is_eq, is_some, sym, ◌+◌, ◌∙◌}
use Rattle.std.proofs.lemmas.Option.{slice_get_within}

pub loop-range-init : goal.loop-range-init
loop-range-init g c = joins-first g.C.Comparator.order (g.C.Comparator.order c.args.comp.now) c.args.cursor.now c.args.end c.requires.valid c.requires.first c.requires.ends

pub next-requires-clause-valid : goal.next-requires-clause-valid
next-requires-clause-valid g c = c.loop-range.invariant.changed.goes.valid

pub extend-requires-clause-within : goal.extend-requires-clause-within
extend-requires-clause-within g c = there-within g.C.Comparator.order (g.C.Comparator.order c.args.comp.now) c.args.cursor.now c.loop-range.cursor c.next.new.self c.loop-range.end c.in-Some.range c.next.ensures.moves c.in-Some.ensures.value (slice_get_within (entries c.loop-range.cursor) (spot c.loop-range.cursor + 1) c.in-Some.range (sym c.in-Some.ensures.value)) c.loop-range.invariant

pub loop-range-smaller-then-is_eq : goal.loop-range-smaller-then-is_eq
loop-range-smaller-then-is_eq g c = fewer-both g.C.Comparator.order (g.C.Comparator.order c.args.comp.now) c.args.cursor.now c.loop-range.cursor c.next.new.self c.loop-range.end c.in-Some.range c.next.ensures.moves c.in-Some.ensures.value (slice_get_within (entries c.loop-range.cursor) (spot c.loop-range.cursor + 1) c.in-Some.range (sym c.in-Some.ensures.value)) c.loop-range.invariant c.extend.new.cursor c.extend.ensures.goes c.extend.ensures.becomes

pub loop-range-preserved-then-is_eq : goal.loop-range-preserved-then-is_eq
loop-range-preserved-then-is_eq g c = joins-both g.C.Comparator.order (g.C.Comparator.order c.args.comp.now) c.args.cursor.now c.loop-range.cursor c.next.new.self c.loop-range.end c.in-Some.range c.next.ensures.moves c.in-Some.ensures.value (slice_get_within (entries c.loop-range.cursor) (spot c.loop-range.cursor + 1) c.in-Some.range (sym c.in-Some.ensures.value)) c.loop-range.invariant c.extend.new.cursor c.extend.ensures.goes c.extend.ensures.becomes
    (ap is_eq (sym c.cmp.ensures) ∙ sym c.is_eq.ensures ∙ c.if-is_eq.true)

pub loop-range-smaller : goal.loop-range-smaller
loop-range-smaller g c = fewer-on g.C.Comparator.order (g.C.Comparator.order c.args.comp.now) c.args.cursor.now c.loop-range.cursor c.next.new.self c.loop-range.end c.in-Some.range c.next.ensures.moves c.in-Some.ensures.value (slice_get_within (entries c.loop-range.cursor) (spot c.loop-range.cursor + 1) c.in-Some.range (sym c.in-Some.ensures.value)) c.loop-range.invariant

pub loop-range-preserved : goal.loop-range-preserved
loop-range-preserved g c = joins-on g.C.Comparator.order (g.C.Comparator.order c.args.comp.now) c.args.cursor.now c.loop-range.cursor c.next.new.self c.loop-range.end c.in-Some.range c.next.ensures.moves c.in-Some.ensures.value (slice_get_within (entries c.loop-range.cursor) (spot c.loop-range.cursor + 1) c.in-Some.range (sym c.in-Some.ensures.value)) c.loop-range.invariant (ap is_eq (sym c.cmp.ensures) ∙ sym c.is_eq.ensures ∙ c.if-is_eq.false)

pub returns-clause-becomes : goal.returns-clause-becomes
returns-clause-becomes g c =
    let order = g.C.Comparator.order in
    let d = c.loop-range.cursor in
    let t = c.loop-range.invariant in
    changed-list order (changed-moved order t.changed c.next.ensures.moves)
    (moved-entries order c.next.ensures.moves ∙ sym (joined-last (order c.args.comp.now) (spot d) (entries d) (t.start, c.loop-range.end) t.here (omega (arith, is-past c.next.result (entries d) (spot d + 1) c.next.ensures.value (ap (λ o. is_some o) c.in_default.is)))) ∙ t.rest)

pub returns-clause-goes : goal.returns-clause-goes
returns-clause-goes g c = (changed-moved g.C.Comparator.order c.loop-range.invariant.changed c.next.ensures.moves).goes
