use Rattle.bforest.proofs.Sets.{present-is}
use Rattle.bforest.proofs.set.Set.contains.Goals as goal
use Rattle.bforest.specs.Forest.{list_of}
use Rattle.std.proofs.Common.{ap, ◌∙◌}
use Rattle.std.specs.Option.{is_some}

pub returns : goal.returns
returns g c = record { present = rw (← c.self.view_is, ← c.forest.view_is) (c.is_some.ensures ∙ ap is_some c.get.ensures.value ∙ present-is (g.C.Comparator.order c.args.comp.now) (list_of c.forest.inside.trees c.self.inside.root) c.args.key); value = rw (← c.self.view_is, ← c.forest.view_is) (c.is_some.ensures ∙ ap is_some c.get.ensures.value) }
