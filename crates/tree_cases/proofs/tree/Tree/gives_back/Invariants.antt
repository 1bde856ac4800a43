use Rattle.bforest_core.specs.Paths.{StandingUnder}
use Rattle.tree_cases.proofs.tree.Tree.gives_back.Given as goal

abbrev pub invariant-steps : goal.invariant-steps
invariant-steps g l = StandingUnder l.self-inside.pool l.root l.path
