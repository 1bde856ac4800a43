use Rattle.bforest_nodes.proofs.States.{vacant_of_free}
use Rattle.bforest_nodes.proofs.node.NodeData.next_free.Goals as goal

pub returns : goal.returns
returns g c = rw (← c.self.view_is, c.in-Vacant.is)

pub unreachable-requires : goal.unreachable-requires
unreachable-requires g c = vacant_of_free c.self.inside.state c.in_default.not-Vacant (rw (← c.self.view_is) at c.requires)
