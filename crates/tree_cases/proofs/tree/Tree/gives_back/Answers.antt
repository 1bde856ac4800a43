use Rattle.tree_cases.specs.Ordered.{IsOrderedAt}
use Rattle.tree_cases.proofs.Walks.{standing-end}
use Rattle.tree_cases.proofs.tree.Tree.gives_back.Goals as goal

pub steps-init : goal.steps-init
steps-init g c =
    let ordered : IsOrderedAt c.self.inside.pool c.in-Some.root = rw c.in-Some.is at c.self.invariant.ordered in
    standing-end _ _ c.in-Some.root ordered.root_is c.default-path.ensures
