use Rattle.bforest.proofs.set.Set.get_or_less.Goals as goal
use Rattle.std.proofs.Common.{ap, option_map, ◌∙◌}

pub returns : goal.returns
returns g c = record { key = c.key_of.ensures ∙ ap (option_map (λ e. e.0)) (rw (← c.self.view_is, ← c.forest.view_is) c.get_or_less.ensures.value) }
