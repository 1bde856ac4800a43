use Rattle.bforest_core.proofs.{Words.arith, table.Chains.IsChain-free, table.Pools.free_within}
use Rattle.bforest_core.proofs.pool.NodePool.slots.Goals as goal

pub returns : goal.returns
returns g c = record {
  table = rw (← c.self.view_is) (record {
    distinct = c.self.invariant.distinct;
    free = IsChain-free _ _ _ c.self.invariant.linked;
    free_within = omega (arith, free_within _ _ _ c.self.invariant);
    slots_within = c.self.invariant.slots_within;
    limit_within = c.self.invariant.limit_within;
  });
  value = rw (← c.self.view_is) (omega arith);
  held = rw (← c.self.view_is) (omega (arith, c.self.inside.nodes.ok.0, c.self.inside.nodes.ok.1));
}
