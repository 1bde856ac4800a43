use Rattle.bforest.proofs.Evens.{leaves-enough, leaves-met, leaves-small, none-enough}
use Rattle.bforest.proofs.room.most_nodes.Goals as goal
use Rattle.std.proofs.Common.{arith, rules}

pub returns-then-entries-eq0-clause-enough : goal.returns-then-entries-eq0-clause-enough
returns-then-entries-eq0-clause-enough c = none-enough c.args.capacity c.args.entries c.requires.capacity c.if-entries-eq0.true

pub nodes_from-requires-clause-small : goal.nodes_from-requires-clause-small
nodes_from-requires-clause-small c = leaves-small c.args.capacity c.args.entries _ _ c.requires.capacity c.div_ceil-half.ensures c.div_ceil.ensures (search rules)

pub returns-clause-enough : goal.returns-clause-enough
returns-clause-enough c = leaves-enough c.args.capacity c.args.entries _ _ c.requires.capacity c.div_ceil-half.ensures c.div_ceil.ensures _ c.nodes_from.ensures.enough

pub returns-clause-met : goal.returns-clause-met
returns-clause-met c = leaves-met c.args.capacity c.args.entries _ _ c.requires.capacity c.div_ceil-half.ensures c.div_ceil.ensures _ (omega arith) c.nodes_from.ensures.met
