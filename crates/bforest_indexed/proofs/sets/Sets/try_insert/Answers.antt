use Rattle.bforest_indexed.proofs.sets.Sets.try_insert.Goals as goal

pub returns : goal.returns
returns g c = c.insert.ensures
