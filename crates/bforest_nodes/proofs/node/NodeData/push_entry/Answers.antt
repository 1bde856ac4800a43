use Rattle.bforest_nodes.proofs.States.{entries_of_leaf}
use Rattle.bforest_nodes.proofs.node.NodeData.push_entry.Goals as goal

pub unreachable-requires : goal.unreachable-requires
unreachable-requires g c = entries_of_leaf c.self.inside.state c.in_default.not-Entries (rw (← c.self.view_is) at c.requires.leaf)
