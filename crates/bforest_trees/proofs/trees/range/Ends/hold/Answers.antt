use Rattle.std.proofs.Common.{ap, take}
use Rattle.bforest_trees.proofs.ranges.Ranging.{cut-count}
use Rattle.bforest_trees.proofs.trees.range.Ends.hold.Goals as goal

pub slice_bounds-self-end : goal.slice_bounds-self-end
slice_bounds-self-end g c = let r = c.requires.leaf in cut-count r.0 c.args.to r.2 (c.start_at.ensures.keys r.0 r.1)

pub returns-clause-keys : goal.returns-clause-keys
returns-clause-keys g c = λ entries slot. ap (take c.args.to) (c.start_at.ensures.keys entries slot)
