use Rattle.bforest.specs.Cursor.{entries, spot}
use Rattle.bforest.proofs.Loops.{changed-list, changed-none}
use Rattle.bforest_tests.proofs.Ranges.{joined-none}
use Rattle.bforest_tests.proofs.callers.loops.join_all.Goals as goal

pub returns-in_default-clause-becomes : goal.returns-in_default-clause-becomes
returns-in_default-clause-becomes g c =
    let cursor = c.args.cursor.now in
    changed-list g.C.Comparator.order (changed-none g.C.Comparator.order cursor c.requires.valid)
    (joined-none (g.C.Comparator.order c.args.comp.now) (entries cursor) (spot cursor) c.requires.first c.in_default.ensures.value)
