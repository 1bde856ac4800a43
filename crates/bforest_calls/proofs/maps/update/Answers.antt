use Rattle.bforest_calls.proofs.Updating.{updates-plain}
use Rattle.bforest_calls.proofs.maps.update.Goals as goal
use Rattle.std.proofs.Common.{rules}

pub returns : goal.returns
returns g c = updates-plain (λ v w called. search rules) c.update.result c.update.ensures
