use Rattle.bforest.proofs.Sets.{popped-as}
use Rattle.bforest.proofs.set.Set.pop_first.Goals as goal
use Rattle.bforest.specs.Set.{as_popped}
use Rattle.std.proofs.Common.{ap, ◌∙◌}

pub returns : goal.returns
returns g c = rw (← c.self.view_is, ← c.forest.view_is, ap as_popped c.key_of.ensures ∙ popped-as c.pop_first.result) c.pop_first.ensures
