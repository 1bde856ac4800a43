use Rattle.bforest_core.proofs.pool.NodePool.collapse_on.Goals as goal

pub returns : goal.returns
returns g c = (c.collapse_root.new.self.size, c.collapse_root.ensures.trimmed)
