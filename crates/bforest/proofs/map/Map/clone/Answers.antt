use Rattle.bforest.proofs.map.Map.clone.Goals as goal

pub returns : goal.returns
returns g c = record { same = cc }
