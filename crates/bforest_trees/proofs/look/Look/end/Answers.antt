use Rattle.std.proofs.Common.{inr, refl}
use Rattle.bforest_trees.proofs.look.Look.end.Goals as goal

pub returns : goal.returns
returns g c = record { look = λ table handle. inr (record { none = record { keys = refl; vals = refl; index = refl; spot = c.root.ensures.height; code = c.root.ensures.code }; place_is = refl }) }
