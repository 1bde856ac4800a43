use Rattle.std.proofs.Common.{arith}
use Rattle.bforest_trees.proofs.ranges.Ranging.{pairs-next, pairs-past}
use Rattle.bforest_trees.proofs.trees.range.Ends.take_first.Goals as goal

pub returns-then-index-self-clause-steps : goal.returns-then-index-self-clause-steps
returns-then-index-self-clause-steps g c = pairs-next _ _ _ _ _ c.if-index-self.true c.requires.paired _ (omega arith)

pub returns-else-index-self-clause-steps : goal.returns-else-index-self-clause-steps
returns-else-index-self-clause-steps g c = let none = pairs-past c.args.self.now.keys.now c.args.self.now.vals.now c.args.self.now.index (omega (arith, c.if-index-self.false)) in (none, none)
