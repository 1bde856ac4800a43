use Rattle.tree_cases.specs.Ordered.{CanGoOn}
use Rattle.tree_cases.proofs.tree.Tree.gives.Given as goal

abbrev pub invariant-steps : goal.invariant-steps
invariant-steps g l = CanGoOn l.self-inside.pool l.path
