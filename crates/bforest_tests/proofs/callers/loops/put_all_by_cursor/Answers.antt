use Rattle.bforest.proofs.Clients.{put_all-more}
use Rattle.bforest.proofs.Loops.{changed-inserted, changed-none}
use Rattle.bforest.specs.Cursor.{comparator, entries}
use Rattle.bforest.specs.Entries.{put}
use Rattle.bforest_tests.proofs.callers.loops.put_all_by_cursor.Goals as goal
use Rattle.std.proofs.Common.{refl, sym, ◌∙◌}

pub loop-entry-init : goal.loop-entry-init
loop-entry-init g c = (changed-none g.C.Comparator.order c.args.cursor.now c.requires.valid, refl)

pub loop-entry-preserved : goal.loop-entry-preserved
loop-entry-preserved g c =
    let order = g.C.Comparator.order in
    let so_far = c.loop-entry.invariant in (
      changed-inserted order so_far.0 c.insert.result c.insert.ensures.goes c.insert.ensures.inserted,
      c.in_ok-insert.ensures.inserted.put.list ∙ (λ j. put (order (so_far.0.goes.comparator j)) (so_far.1 j) (c.entry-item.is j).0 (c.entry-item.is j).1)
          ∙ sym (put_all-more (order (comparator c.args.cursor.now)) (entries c.args.cursor.now) c.args.added.now c.loop-entry.entry-index c.entry-item.result c.loop-entry-test.true),
    )
