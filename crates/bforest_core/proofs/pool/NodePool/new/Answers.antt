use Rattle.bforest_core.proofs.pool.NodePool.new.Goals as goal

pub returns : goal.returns
returns g c = record { empty = c.with_limit.ensures.empty }
