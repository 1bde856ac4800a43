use Rattle.bforest.proofs.map.Map.nodes_for.Goals as goal
use Rattle.std.proofs.Common.{arith}
use Rattle.std.proofs.lemmas.Grind.{div_ceil_times}

pub returns : goal.returns
returns g c = record { enough = c.most_nodes.ensures.enough; met = c.most_nodes.ensures.met; few = omega (arith, c.most_nodes.ensures.few, div_ceil_times c.args.entries 4 (omega arith)) }
