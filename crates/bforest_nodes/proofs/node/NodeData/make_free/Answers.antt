use Rattle.std.proofs.Common.{rules}
use Rattle.bforest_nodes.proofs.node.NodeData.make_free.Goals as goal

pub returns : goal.returns
returns g c = search rules
