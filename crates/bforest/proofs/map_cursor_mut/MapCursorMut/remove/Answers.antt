use Rattle.bforest.proofs.Cursors.{goes-on, removes-gone, removes-ordered, removes-others}
use Rattle.bforest.proofs.map_cursor_mut.MapCursorMut.remove.Goals as goal
use Rattle.std.proofs.Common.{ap, option_map, refl, ◌∙◌}

pub returns : goal.returns
returns g c = let at = rw (← c.forest.view_is, ← c.map.view_is) at c.requires.valid.stands in
    let up = rw (← c.forest.view_is, ← c.map.view_is) at c.requires.valid.increasing in
    let total = g.met.C.Comparator.total c.args.self.now.comp.now in record {
      value = c.value_of.ensures ∙ ap (option_map (λ e. e.1))
          (rw (← c.forest.view_is, ← c.map.view_is) (c.take.ensures.value (record { place = _; spot = at })));
      removed = rw (← c.forest.view_is, ← c.map.view_is) (c.take.ensures.removed (record { place = _; spot = at }));
      gone = rw (← c.forest.view_is, ← c.map.view_is) (removes-gone total up (c.take.ensures.removed (record { place = _; spot = at })));
      others = rw (← c.forest.view_is, ← c.map.view_is) (removes-others total up (c.take.ensures.removed (record { place = _; spot = at })));
      goes = goes-on refl refl refl (removes-ordered up (c.take.ensures.removed (record { place = _; spot = at })))
          (rw (← c.forest.view_is, ← c.map.view_is) (c.take.ensures.spot (record { place = _; spot = at }), c.take.ensures.computed));
    }
