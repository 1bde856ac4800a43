use Rattle.bforest_core.proofs.Words.{ap}
use Rattle.bforest_core.proofs.pool.NodePool.limit.Goals as goal

pub returns : goal.returns
returns g c = record { value = ap (λ t. t.limit) c.self.view_is }
