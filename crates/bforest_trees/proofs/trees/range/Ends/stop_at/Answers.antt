use Rattle.std.proofs.Common.{ap, take}
use Rattle.bforest_trees.proofs.ranges.Ranging.{cut-count}
use Rattle.bforest_trees.proofs.trees.range.Ends.stop_at.Goals as goal

pub slice_bounds-self-end : goal.slice_bounds-self-end
slice_bounds-self-end g c = let r = c.requires.leaf in cut-count r.0 c.args.index r.2 (c.stop_in.ensures.keys r.0 r.1)

pub returns-clause-keys : goal.returns-clause-keys
returns-clause-keys g c = λ entries slot. ap (take c.args.index) (c.stop_in.ensures.keys entries slot)
