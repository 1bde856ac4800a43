use Rattle.bforest_trees.proofs.Ensuring.{was-absent}
use Rattle.bforest_trees.proofs.trees.Trees.get_or_insert.Goals as goal
use Rattle.std.proofs.Common.{None, sym, ◌∙◌, ◌≡◌}

pub returns-in-Some : goal.returns-in-Some
returns-in-Some g c = rw (sym c.expand.ensures.value ∙ c.in-Some.is) c.get_or_insert_under.ensures

pub returns-in-None : goal.returns-in-None
returns-in-None g c =
    let none : c.args.handle.now ≡ None = sym c.expand.ensures.value ∙ c.in-None.is in
    rw none (was-absent tt (c.plant.ensures.inserted (g.C.Comparator.order c.args.comp.now) (g.met.C.Comparator.total c.args.comp.now)) c.plant.ensures.value)
