use Rattle.bforest.proofs.set.SetDefault.default.Goals as goal

pub returns : goal.returns
returns g c = c.new.ensures.empty
