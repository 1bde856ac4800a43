use Rattle.std.proofs.Common.{arith}
use Rattle.bforest_trees.proofs.unions.Fewest.{parents-few}
use Rattle.bforest_trees.proofs.trees.pack.+nodes_above.Goals as goal

pub nodes_above-requires : goal.nodes_above-requires
nodes_above-requires t c = let few = parents-few c.args.count c.div_ceil-parents.result (omega (arith, c.if-count-le1.false)) c.div_ceil-parents.ensures in (omega (arith, few, c.if-count-le1.false), omega (arith, few, c.requires))
