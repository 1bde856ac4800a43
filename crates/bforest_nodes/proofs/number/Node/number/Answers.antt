use Rattle.std.proofs.Common.{rules}
use Rattle.bforest_nodes.proofs.number.Node.number.Goals as goal

pub returns-clause-value : goal.returns-clause-value
returns-clause-value c = search rules
