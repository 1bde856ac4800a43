use Rattle.std.proofs.Common.{rules}
use Rattle.bforest_nodes.proofs.number.PackedNode.none.Goals as goal

pub returns : goal.returns
returns c = search rules
