use Rattle.bforest.proofs.map.MapDefault.default.Goals as goal

pub returns : goal.returns
returns g c = c.new.ensures.empty
