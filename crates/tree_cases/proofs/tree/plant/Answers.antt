use Rattle.tree_cases.proofs.Ordering.{if_ok_weaker, ordered-one}
use Rattle.tree_cases.proofs.tree.plant.Goals as goal

pub returns-clause-planted : goal.returns-clause-planted
returns-clause-planted g c = if_ok_weaker c.alloc_node.result (λ root made. ordered-one _ _ _ root root c.args.key c.args.value _ made.changes) (c.alloc_node.ensures.planted c.requires.union)
