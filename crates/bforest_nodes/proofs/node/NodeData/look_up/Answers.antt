use Rattle.std.proofs.Common.{rules}
use Rattle.bforest_nodes.proofs.node.NodeData.look_up.Goals as goal

pub returns-in-Ok-clause-value : goal.returns-in-Ok-clause-value
returns-in-Ok-clause-value g c = search rules
