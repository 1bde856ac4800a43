use Rattle.bforest_core.proofs.union.Needs.{fewest-least, fewest-met}
use Rattle.bforest.proofs.map.Map.fewest_nodes_for.Goals as goal
use Rattle.std.proofs.Common.{arith}

pub returns : goal.returns
returns g c = record {
  count = c.fewest_nodes.ensures.count;
  least = λ sizes fit. rw c.fewest_nodes.ensures.count (fewest-least 7 c.args.entries (omega arith) sizes fit);
  met = rw c.fewest_nodes.ensures.count (fewest-met 7 c.args.entries (omega arith));
}
