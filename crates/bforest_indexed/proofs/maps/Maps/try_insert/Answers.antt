use Rattle.bforest_indexed.proofs.maps.Maps.try_insert.Goals as goal

pub returns : goal.returns
returns g c = c.insert.ensures
