use Rattle.bforest.proofs.Cursors.{looks-in, reads-at}
use Rattle.bforest.proofs.map_cursor.MapCursor.goto_first.Goals as goal
use Rattle.std.proofs.Common.{ap, option_map, ◌∙◌}

pub invariant_of-self : goal.invariant_of-self
invariant_of-self g c = looks-in c.self.invariant c.first.ensures.look

pub returns : goal.returns
returns g c = rw (← c.self.view_is) (record {
  value = c.value_of.ensures ∙ ap (option_map (λ e. e.1)) c.first.ensures.value;
  moves = reads-at c.first.ensures.look;
})
