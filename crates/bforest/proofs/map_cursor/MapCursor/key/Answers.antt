use Rattle.bforest.proofs.map_cursor.MapCursor.key.Goals as goal
use Rattle.std.proofs.Common.{ap, option_map, ◌∙◌}

pub returns-clause-key : goal.returns-clause-key
returns-clause-key g c = c.key_of.ensures ∙ ap (option_map (λ e. e.0)) c.entry.ensures.entry
