use Rattle.std.proofs.Common.{◌<◌, arith}
use Rattle.bforest_nodes.specs.Content.{Leaf}
use Rattle.bforest_nodes.proofs.Prefixes.{first_copy}
use Rattle.bforest_nodes.proofs.node.NodeData.new_leaf.Goals as goal

pub returns : goal.returns
returns g c =
    let least = c.requires.capacity.least in
    let some : 0 < g.row.N = omega arith in
    record { node = λ i. Leaf (first_copy g.row.N c.args.key some i) (first_copy g.row.N c.args.value some i) }
