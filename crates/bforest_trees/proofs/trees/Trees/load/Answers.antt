use Rattle.bforest_trees.proofs.trees.Trees.load.Goals as goal
use Rattle.std.proofs.Common.{rules}

pub load_from-requires : goal.load_from-requires
load_from-requires g c = (search rules, (search rules, c.len.ensures))
