use Rattle.bforest_core.proofs.Words.{slice_get_read, length, refl, arith}
use Rattle.bforest_core.proofs.pool.NodePool.node.Goals as goal

pub returns : goal.returns
returns g c = let within = rw (← c.self.view_is) at c.requires in
    record { value = rw (← c.self.view_is, ← c.number.ensures.value) (slice_get_read c.self.inside.nodes.items (length c.self.inside.nodes.items) c.number.result c.index.result.now refl (omega (arith, within)) c.index.ensures) }
