use Rattle.bforest_trees.proofs.trees.Trees.put.Goals as goal
use Rattle.std.proofs.Common.{None, sym, ◌∙◌, ◌≡◌}

pub returns-in-None : goal.returns-in-None
returns-in-None g c =
    let none : c.args.handle.now ≡ None = sym c.expand.ensures.value ∙ c.in-None.is in
    rw none (c.put_first.ensures (g.C.Comparator.order c.args.comp.now) (g.met.C.Comparator.total c.args.comp.now))
