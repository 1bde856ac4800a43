use Rattle.std.proofs.Common.{rules}
use Rattle.bforest_nodes.proofs.half.answer_of.Goals as goal

pub returns-then-left-gt0 : goal.returns-then-left-gt0
returns-then-left-gt0 c = search rules

pub returns-else-left-gt0 : goal.returns-else-left-gt0
returns-else-left-gt0 c = search rules
