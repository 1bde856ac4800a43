use Rattle.std.proofs.Common.{rules}
use Rattle.bforest_nodes.proofs.number.Node.new.Goals as goal

pub returns : goal.returns
returns c = search rules
