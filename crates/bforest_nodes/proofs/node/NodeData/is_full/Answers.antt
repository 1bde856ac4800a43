use Rattle.std.proofs.Common.{rules}
use Rattle.bforest_nodes.proofs.node.NodeData.is_full.Goals as goal

pub unreachable-requires : goal.unreachable-requires
unreachable-requires g c = c.requires.used (rw (← c.self.view_is, c.in-Vacant.is) tt)

pub returns-in-Branch : goal.returns-in-Branch
returns-in-Branch g c = search rules
