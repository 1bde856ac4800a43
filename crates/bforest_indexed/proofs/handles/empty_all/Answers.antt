use Rattle.bforest_indexed.proofs.Adding.{adds-all, adds-none, adds-one}
use Rattle.bforest_indexed.proofs.handles.empty_all.Goals as goal
use Rattle.std.proofs.Common.{rules}

pub loop-init : goal.loop-init
loop-init g c = (adds-none _ _ c.clear.ensures.items, search rules, search rules, search rules)

pub loop-preserved : goal.loop-preserved
loop-preserved g c = (adds-one _ _ _ _ _ c.loop.invariant.0 c.default.ensures c.push_reserved.ensures.items, search rules, search rules, search rules)

pub returns-clause-empty : goal.returns-clause-empty
returns-clause-empty g c = adds-all _ _ _ c.len-count.result _ c.loop.invariant.0 c.loop-test.false c.loop.auto.counter-end (search rules)
