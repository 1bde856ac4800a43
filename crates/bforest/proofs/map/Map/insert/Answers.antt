use Rattle.bforest.proofs.map.Map.insert.Goals as goal

pub returns : goal.returns
returns g c = c.try_insert.ensures
