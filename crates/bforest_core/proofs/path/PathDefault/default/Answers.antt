use Rattle.bforest_core.proofs.Words.{refl}
use Rattle.bforest_core.proofs.path.PathDefault.default.Goals as goal

pub returns : goal.returns
returns g c = refl
