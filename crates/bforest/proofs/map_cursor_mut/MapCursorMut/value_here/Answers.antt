use Rattle.bforest.proofs.Cursors.{on-entry, parts-read, writes, written-here}
use Rattle.bforest.proofs.map_cursor_mut.MapCursorMut.value_here.Goals as goal
use Rattle.bforest.specs.Cursor.{spot, with_value_here}
use Rattle.bforest_trees.specs.Place.{IsWritten}
use Rattle.std.proofs.Common.{refl, rules, subst}

pub unwrap-index-requires : goal.unwrap-index-requires
unwrap-index-requires g c = let pos = c.leaf_pos.ensures.place c.requires.on_entry in search rules

pub value_at-requires : goal.value_at-requires
value_at-requires g c =
    let s = c.args.self.now in
    let is = parts-read (c.leaf_pos.ensures.place c.requires.on_entry) c.unwrap-index.ensures in
    (search rules, (s.map.now, s.path, on-entry g.C.Comparator.order s c.requires.valid c.requires.on_entry, is.0, is.1))

pub returns : goal.returns
returns g c =
    let s = c.args.self.now in
    let is = parts-read (c.leaf_pos.ensures.place c.requires.on_entry) c.unwrap-index.ensures in
    let on = on-entry g.C.Comparator.order s c.requires.valid c.requires.on_entry in
    let now = written-here s.forest.now s.path _ _ (spot s) _ on.within is.0 is.1 in
    let told = λ (w : g.row.V.Denot). subst (λ z. IsWritten s.forest.now z s.map.now s.path (spot s) w) (now w)
    (c.value_at.ensures.written s.map.now s.path on is.0 is.1 w) in (
      (refl, λ w j. record s { forest = record s.forest { now = now w j } }),
      record {
        writes_back = tt;
        value = c.value_at.ensures.value s.map.now s.path on is.0 is.1;
        written = λ w. writes g.C.Comparator.order s c.requires.valid (with_value_here s w) w refl refl refl refl refl (told w);
      },
    )
