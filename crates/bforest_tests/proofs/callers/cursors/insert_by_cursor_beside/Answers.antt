use Rattle.bforest.proofs.Becoming.{list-beside}
use Rattle.bforest.specs.Forest.{list_of}
use Rattle.bforest.specs.Entries.{put}
use Rattle.bforest_tests.proofs.callers.cursors.insert_by_cursor_beside.Goals as goal

pub returns : goal.returns
returns g c =
    let order = g.C.Comparator.order c.args.comp.now in
    let told = c.insert_by_cursor.ensures in
    record {
      others = λ other live ne. list-beside c.args.forest.now c.insert_by_cursor.new.forest c.args.map.now c.insert_by_cursor.new.map other (put order (list_of c.args.forest.now c.args.map.now) c.args.entry.0 c.args.entry.1) c.insert_by_cursor.result told.inserted.put told.inserted.refused_forest live ne;
    }
