use Rattle.std.proofs.Common.{arith}
use Rattle.bforest_trees.proofs.ranges.Ranging.{pairs-last, pairs-past}
use Rattle.bforest_trees.proofs.trees.range.Ends.take_back.Goals as goal

pub returns-then-len-gt0-clause-steps : goal.returns-then-len-gt0-clause-steps
returns-then-len-gt0-clause-steps g c = pairs-last _ _ _ _ _ (omega (arith, c.if-len-gt0.true)) c.requires.paired

pub returns-else-len-gt0-clause-steps : goal.returns-else-len-gt0-clause-steps
returns-else-len-gt0-clause-steps g c = let none = pairs-past c.args.self.now.back_keys.now c.args.self.now.back_vals.now 0 (omega (arith, c.if-len-gt0.false)) in (none, none)
