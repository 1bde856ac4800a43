use Rattle.bforest.proofs.Cursors.{moves-on}
use Rattle.bforest.proofs.map_cursor_mut.MapCursorMut.goto_first.Goals as goal
use Rattle.std.proofs.Common.{ap, option_map, refl, ◌∙◌}

pub returns-clause-value : goal.returns-clause-value
returns-clause-value g c = c.value_of.ensures ∙ ap (option_map (λ e. e.1)) (rw (← c.forest.view_is, ← c.map.view_is) c.first.ensures.value)

pub returns-clause-moves : goal.returns-clause-moves
returns-clause-moves g c = moves-on refl refl refl refl refl c.requires.valid
    (rw (← c.forest.view_is, ← c.map.view_is) (c.first.ensures.spot, c.first.ensures.computed))
