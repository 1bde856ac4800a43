use Rattle.bforest_nodes.proofs.node.NodeData.follow.Goals as goal

pub returns-clause-child : goal.returns-clause-child
returns-clause-child g c = rw (← c.self.view_is, c.in-Branch.is) c.at.ensures
