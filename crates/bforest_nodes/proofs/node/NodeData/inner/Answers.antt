use Rattle.std.proofs.Common.{rules}
use Rattle.bforest_nodes.proofs.node.NodeData.inner.Goals as goal

pub returns : goal.returns
returns g c = search rules
