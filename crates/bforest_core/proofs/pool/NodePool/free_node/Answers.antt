use Rattle.bforest_core.proofs.{Words.arith, table.Pools.{IsPool-freed, free_below, used_inside}, table.Chains.front_of-is}
use Rattle.bforest_core.proofs.pool.NodePool.free_node.Goals as goal

pub overflow_add-self : goal.overflow_add-self
overflow_add-self g c = let used = used_inside c.self.view_is c.number.ensures.value c.requires.used in
    omega (arith, free_below _ _ _ _ c.number.result used.within used.off_chain c.self.invariant)

pub invariant_of-self : goal.invariant_of-self
invariant_of-self g c = let used = used_inside c.self.view_is c.number.ensures.value c.requires.used in
    rw (c.make_free.ensures, c.some-self-inside.ensures.node, ← c.number.ensures.value) (IsPool-freed _ _ _ _ c.number.result used.within used.off_chain c.self.invariant).0

pub returns : goal.returns
returns g c = let used = used_inside c.self.view_is c.number.ensures.value c.requires.used in
    let freed = IsPool-freed _ _ _ _ c.number.result used.within used.off_chain c.self.invariant in record {
      freed = rw (← c.self.view_is, c.make_free.ensures, c.some-self-inside.ensures.node, ← c.number.ensures.value, freed.1, front_of-is _ _ _ c.self.invariant.linked);
    }
