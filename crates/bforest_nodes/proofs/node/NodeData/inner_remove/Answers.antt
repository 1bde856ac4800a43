use Rattle.std.proofs.Common.{◌≡◌, ◌+◌, arith, length, rules, take}
use Rattle.std.proofs.lemmas.Grind.{common_steps}
use Rattle.bforest_nodes.proofs.Cuts.{without_child-many, without_child-one}
use Rattle.bforest_nodes.proofs.States.{branch_of_inner, children_within, right_most}
use Rattle.bforest_nodes.proofs.node.NodeData.inner_remove.Given.{Over}
use Rattle.bforest_nodes.proofs.node.NodeData.inner_remove.Goals as goal
use Rattle.bforest_nodes.proofs.node.NodeData.inner_remove.Goals.{else-left-gt0, then-left-gt0}

pub unreachable-requires : goal.unreachable-requires
unreachable-requires g c = branch_of_inner c.self.inside.state c.in_default.not-Branch (rw (← c.self.view_is) at c.requires.inner)

pub returns-clause-answer : goal.returns-clause-answer
returns-clause-answer g c = grind (arith, common_steps)

-- the number of children
tree_len : (g : Over) (c : goal.After-answer_of g) → length (take (c.in-Branch.size + 1) c.in-Branch.tree.items) ≡ c.in-Branch.size + 1
tree_len g c = search rules

pub returns-clause-node : goal.returns-clause-node
returns-clause-node g c = elim c.if-left-gt0.branch [
  | then-left-gt0 w ↦ rw (← c.self.view_is, c.in-Branch.is, w.self-inside-is) (without_child-many _ _ _ _ _ _ _ w.if-left-gt0.true (tree_len g c) w.saturating_sub.ensures w.remove.ensures w.remove-then-left-gt0.ensures)
  | else-left-gt0 w ↦ rw (← c.self.view_is, w.self-inside-is, c.in-Branch.is) (without_child-one _ _ _ _ w.if-left-gt0.false (tree_len g c))
]

pub remove-requires : goal.remove-requires
remove-requires g c =
    let most = right_most c.self.inside.state c.in-Branch.size c.in-Branch.keys c.in-Branch.tree c.in-Branch.is c.self.invariant.1 in
    (omega arith, (omega (arith, most), children_within c.self.inside.state c.in-Branch.size c.in-Branch.keys c.in-Branch.tree c.args.self.now c.args.index c.self.view_is c.in-Branch.is c.requires.within))

pub remove-requires-then-left-gt0 : goal.remove-requires-then-left-gt0
remove-requires-then-left-gt0 g c =
    let within = children_within c.self.inside.state c.in-Branch.size c.in-Branch.keys c.in-Branch.tree c.args.self.now c.args.index c.self.view_is c.in-Branch.is c.requires.within in
    (search rules, (right_most c.self.inside.state c.in-Branch.size c.in-Branch.keys c.in-Branch.tree c.in-Branch.is c.self.invariant.1, omega (arith, within)))

pub answer_of-requires : goal.answer_of-requires
answer_of-requires g c =
    let most = right_most c.self.inside.state c.in-Branch.size c.in-Branch.keys c.in-Branch.tree c.in-Branch.is c.self.invariant.1 in
    omega (arith, most)
