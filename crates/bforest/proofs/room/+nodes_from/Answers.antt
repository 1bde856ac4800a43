use Rattle.bforest.proofs.Evens.{more-enough, more-met, one-enough}
use Rattle.bforest.proofs.room.+nodes_from.Goals as goal
use Rattle.std.proofs.Common.{arith}

pub returns-then-count-eq1-clause-enough : goal.returns-then-count-eq1-clause-enough
returns-then-count-eq1-clause-enough t c = one-enough c.args.count c.if-count-eq1.true

pub returns-clause-enough : goal.returns-clause-enough
returns-clause-enough t c = more-enough c.args.count c.div_ceil.result c.nodes_from.result (omega arith) c.div_ceil.ensures c.nodes_from.ensures.enough

pub returns-clause-met : goal.returns-clause-met
returns-clause-met t c = more-met c.args.count c.div_ceil.result c.nodes_from.result (omega arith) c.div_ceil.ensures c.nodes_from.ensures.met
