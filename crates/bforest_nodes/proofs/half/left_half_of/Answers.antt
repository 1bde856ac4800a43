use Rattle.std.proofs.Common.{rules}
use Rattle.bforest_nodes.proofs.half.left_half_of.Goals as goal

pub returns-else-insert_index-most-clause-half : goal.returns-else-insert_index-most-clause-half
returns-else-insert_index-most-clause-half c = search rules
