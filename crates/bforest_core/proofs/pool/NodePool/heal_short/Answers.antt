use Rattle.bforest_core.proofs.Words.{rules}
use Rattle.bforest_core.proofs.pool.NodePool.heal_short.Goals as goal

pub heal_far-requires : goal.heal_far-requires
heal_far-requires g c = (search rules, (c.requires.most, rw (c.heal_beside.ensures.same c.in-None.is) c.requires.taken))

pub returns-in-None : goal.returns-in-None
returns-in-None g c = rw (← c.heal_beside.ensures.same c.in-None.is) c.heal_far.ensures
