use Rattle.std.proofs.Common.{arith}
use Rattle.bforest_trees.proofs.ranges.Ranging.{pairs-last-from, pairs-past}
use Rattle.bforest_trees.proofs.trees.range.Ends.take_last.Goals as goal

pub returns-then-self-len-clause-steps : goal.returns-then-self-len-clause-steps
returns-then-self-len-clause-steps g c = pairs-last-from _ _ _ _ _ c.if-self-len.true c.requires.paired

pub returns-else-self-len-clause-steps : goal.returns-else-self-len-clause-steps
returns-else-self-len-clause-steps g c = let none = pairs-past c.args.self.now.keys.now c.args.self.now.vals.now c.args.self.now.index (omega (arith, c.if-self-len.false)) in (none, none)
