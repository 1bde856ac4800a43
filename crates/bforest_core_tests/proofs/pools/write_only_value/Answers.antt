use Rattle.std.proofs.Common.{rules, arith}
use Rattle.bforest_core_tests.proofs.pools.write_only_value.Goals as goal

pub value_mut-requires : goal.value_mut-requires
value_mut-requires c = (omega arith, (c.requires.used, record { content = _; is = c.requires.leaf; leaf = tt; within = omega arith }))
