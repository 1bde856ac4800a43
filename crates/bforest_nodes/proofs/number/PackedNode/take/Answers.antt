use Rattle.std.proofs.Common.{rules}
use Rattle.bforest_nodes.proofs.number.PackedNode.take.Goals as goal

pub returns-clause-after : goal.returns-clause-after
returns-clause-after c = search rules
