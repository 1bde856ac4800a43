use Rattle.bforest_core.proofs.Words.{sym}
use Rattle.bforest_core.proofs.pool.NodePool.free.Goals as goal

pub returns : goal.returns
returns g c = record { value = rw (← c.self.view_is) (sym c.self.invariant.counted) }
