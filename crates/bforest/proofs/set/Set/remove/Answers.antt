use Rattle.bforest.proofs.Sets.{removed-as}
use Rattle.bforest.proofs.set.Set.remove.Goals as goal
use Rattle.bforest.specs.Set.{as_removed}
use Rattle.std.proofs.Common.{ap, ◌∙◌}

pub returns : goal.returns
returns g c = rw (← c.self.view_is, ← c.forest.view_is, ap as_removed c.is_some.ensures ∙ removed-as c.remove.result) c.remove.ensures
