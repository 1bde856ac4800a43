use Rattle.bforest_tests.proofs.Ranges.{extended, extended-goes, extended-list, some-before}
use Rattle.bforest.proofs.Loops.{changed-list}
use Rattle.bforest_tests.proofs.callers.loops.extend.Goals as goal

pub returns-in-Some-clause-becomes : goal.returns-in-Some-clause-becomes
returns-in-Some-clause-becomes g c =
    let order = g.C.Comparator.order in
    let written = c.value_mut.ensures.written c.args.end in
    changed-list order (extended order c.args.cursor.now c.remove.new.self c.prev.new.self _ c.args.end c.remove.ensures.removed c.remove.ensures.goes c.prev.ensures.moves c.requires.valid written)
    (extended-list order c.args.cursor.now c.remove.new.self c.prev.new.self _ c.args.end c.remove.ensures.removed c.remove.ensures.goes c.prev.ensures.moves c.requires.valid written)

pub returns-in-Some-clause-goes : goal.returns-in-Some-clause-goes
returns-in-Some-clause-goes g c =
    extended-goes g.C.Comparator.order c.args.cursor.now c.remove.new.self c.prev.new.self _ c.args.end c.remove.ensures.removed c.remove.ensures.goes c.prev.ensures.moves c.requires.valid (c.value_mut.ensures.written c.args.end)

pub returns-in_default-clause-becomes : goal.returns-in_default-clause-becomes
returns-in_default-clause-becomes g c =
    absurd (some-before g.C.Comparator.order c.args.cursor.now c.remove.new.self c.prev.new.self c.prev.new.self c.args.end c.remove.ensures.removed c.remove.ensures.goes c.prev.ensures.moves c.requires.valid c.requires.second c.requires.within c.in_default.ensures.value)
