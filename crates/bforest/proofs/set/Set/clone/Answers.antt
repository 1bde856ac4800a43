use Rattle.bforest.proofs.set.Set.clone.Goals as goal

pub returns : goal.returns
returns g c = record { same = cc }
