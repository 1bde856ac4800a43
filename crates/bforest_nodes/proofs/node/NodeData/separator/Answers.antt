use Rattle.std.proofs.Common.{arith, rules}
use Rattle.bforest_nodes.proofs.States.{branch_of_inner, keys_within, right_most}
use Rattle.bforest_nodes.proofs.node.NodeData.separator.Goals as goal

pub unreachable-requires : goal.unreachable-requires
unreachable-requires g c = branch_of_inner c.self.inside.state c.in_default.not-Branch (rw (← c.self.view_is) at c.requires.inner)

pub returns : goal.returns
returns g c = record { key = rw (← c.self.view_is, c.in-Branch.is) c.at.ensures }

pub at-requires : goal.at-requires
at-requires g c =
    let within = keys_within c.self.inside.state c.in-Branch.size c.in-Branch.keys c.in-Branch.field-2 c.args.self.now c.args.index c.self.view_is c.in-Branch.is c.requires.within in
    (search rules, (right_most c.self.inside.state c.in-Branch.size c.in-Branch.keys c.in-Branch.field-2 c.in-Branch.is c.self.invariant.1, omega (arith, within)))
