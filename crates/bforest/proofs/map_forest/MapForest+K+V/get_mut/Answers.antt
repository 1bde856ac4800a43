use Rattle.bforest.proofs.map_forest.MapForest+K+V.get_mut.Goals as goal
use Rattle.std.proofs.Common.{refl}

pub returns : goal.returns
returns g c = rw (← c.self.view_is, ← c.map.view_is) (refl, record { writes_back = tt; value = c.get_mut.ensures.value; written = c.get_mut.ensures.written })
