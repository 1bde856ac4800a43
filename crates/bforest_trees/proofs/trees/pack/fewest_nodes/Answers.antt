use Rattle.std.proofs.Common.{arith}
use Rattle.bforest_trees.proofs.unions.Fewest.{fewest-is}
use Rattle.bforest_trees.proofs.trees.pack.fewest_nodes.Goals as goal

pub returns : goal.returns
returns c = record { count = fewest-is c.args.capacity c.args.entries c.div_ceil-leaves.result c.nodes_above.result (omega (arith, c.requires)) c.div_ceil-leaves.ensures c.nodes_above.ensures.over }
