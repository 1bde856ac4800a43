use Rattle.bforest_nodes.proofs.States.{branch_of_inner, branch_shape}
use Rattle.bforest_nodes.proofs.node.NodeData.unwrap_inner.Goals as goal

pub unreachable-requires : goal.unreachable-requires
unreachable-requires g c = branch_of_inner c.self.inside.state c.in_default.not-Branch (rw (← c.self.view_is) at c.requires.inner)

pub returns-clause-value : goal.returns-clause-value
returns-clause-value g c = rw (← c.self.view_is, c.in-Branch.is, c.front.ensures.value, c.front-in-Branch.ensures.value)

pub returns-clause-shape : goal.returns-clause-shape
returns-clause-shape g c =
    branch_shape c.self.inside.state c.in-Branch.size c.in-Branch.keys c.in-Branch.tree c.args.self.now c.front.result.now
    c.front-in-Branch.result.now c.self.view_is c.in-Branch.is c.self.invariant.1 c.front.ensures.value c.front.ensures.len
    c.front-in-Branch.ensures.value c.front-in-Branch.ensures.len
