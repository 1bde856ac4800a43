use Rattle.bforest.proofs.map_cursor.MapCursor.value.Goals as goal
use Rattle.std.proofs.Common.{ap, option_map, ◌∙◌}

pub returns : goal.returns
returns g c = record { value = c.value_of.ensures ∙ ap (option_map (λ e. e.1)) c.entry.ensures.entry }
