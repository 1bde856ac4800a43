use Rattle.bforest.proofs.set.Set.range.Goals as goal
use Rattle.bforest.specs.Bounds.{is_between}
use Rattle.bforest_nodes.specs.Entries.{IsIncreasing}
use Rattle.bforest_trees.proofs.ranges.Parting.{tested-up}
use Rattle.std.proofs.Common.{subst, sym}

pub returns-clause-increasing : goal.returns-clause-increasing
returns-clause-increasing g c =
    let order = g.C.Comparator.order c.args.comp.now in
    let up = rw (← c.forest.view_is, ← c.self.view_is) at c.requires.increasing in
    subst (IsIncreasing order) (sym c.range.ensures.left) (tested-up order (is_between order c.args.bounds.0 c.args.bounds.1) _ up)
