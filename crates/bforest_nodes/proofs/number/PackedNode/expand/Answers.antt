use Rattle.std.proofs.Common.{rules}
use Rattle.bforest_nodes.proofs.number.PackedNode.expand.Goals as goal

pub returns-else-self : goal.returns-else-self
returns-else-self c = search rules
