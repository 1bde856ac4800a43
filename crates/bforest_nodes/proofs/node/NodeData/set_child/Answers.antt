use Rattle.std.proofs.Common.{arith, rules}
use Rattle.bforest_nodes.proofs.States.{branch_of_inner, children_within, right_most}
use Rattle.bforest_nodes.proofs.node.NodeData.set_child.Goals as goal

pub unreachable-requires : goal.unreachable-requires
unreachable-requires g c = branch_of_inner c.self.inside.state c.in_default.not-Branch (rw (← c.self.view_is) at c.requires.inner)

pub returns : goal.returns
returns g c = record { node = rw (← c.self.view_is, c.in-Branch.is, c.set.ensures) }

pub set-requires : goal.set-requires
set-requires g c =
    let within = children_within c.self.inside.state c.in-Branch.size c.in-Branch.field-1 c.in-Branch.tree c.args.self.now c.args.index c.self.view_is c.in-Branch.is c.requires.within in
    (search rules, (omega (arith, right_most c.self.inside.state c.in-Branch.size c.in-Branch.field-1 c.in-Branch.tree c.in-Branch.is c.self.invariant.1), omega (arith, within)))
