use Rattle.bforest.specs.Cursor.{entries, spot}
use Rattle.bforest.proofs.Loops.{changed-moved, is-past, is-within}
use Rattle.bforest_tests.proofs.Thinned.{thins-fewer, thins-first, thins-last, thins-next}
use Rattle.bforest_tests.proofs.callers.loops.thin_out.Given.{Over}
use Rattle.bforest_tests.proofs.callers.loops.thin_out.Goals as goal
use Rattle.std.proofs.Common.{length, sym, ◌+◌, ◌<◌, ◌∙◌}

pub loop-cursor-init : goal.loop-cursor-init
loop-cursor-init g c = thins-first g.C.Comparator.order c.args.cursor.now c.requires.valid c.requires.first

pub next-requires-clause-valid : goal.next-requires-clause-valid
next-requires-clause-valid g c = c.loop-cursor.invariant.changed.goes.valid

more : (g : Over) (c : goal.After-remove g) → spot c.loop-cursor.cursor + 1 < length (entries c.loop-cursor.cursor)
more g c = is-within c.next.result (entries c.loop-cursor.cursor) (spot c.loop-cursor.cursor + 1) c.next.ensures.value (sym c.is_some.ensures ∙ c.loop-cursor-test.true)

pub loop-cursor-smaller : goal.loop-cursor-smaller
loop-cursor-smaller g c = thins-fewer g.C.Comparator.order c.args.cursor.now c.loop-cursor.cursor c.next.new.self c.remove.new.self c.next.ensures.moves (more g c) c.remove.ensures.removed c.remove.ensures.goes

pub loop-cursor-preserved : goal.loop-cursor-preserved
loop-cursor-preserved g c = thins-next g.C.Comparator.order c.args.cursor.now c.loop-cursor.cursor c.next.new.self c.remove.new.self c.next.ensures.moves (more g c) c.remove.ensures.removed c.remove.ensures.goes c.loop-cursor.invariant

pub returns-clause-becomes : goal.returns-clause-becomes
returns-clause-becomes g c = thins-last g.C.Comparator.order c.args.cursor.now c.loop-cursor.cursor c.next.new.self c.loop-cursor.invariant c.next.ensures.moves
    (is-past c.next.result (entries c.loop-cursor.cursor) (spot c.loop-cursor.cursor + 1) c.next.ensures.value (sym c.is_some.ensures ∙ c.loop-cursor-test.false))

pub returns-clause-goes : goal.returns-clause-goes
returns-clause-goes g c = (changed-moved g.C.Comparator.order c.loop-cursor.invariant.changed c.next.ensures.moves).goes
