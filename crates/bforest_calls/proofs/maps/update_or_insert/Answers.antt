use Rattle.bforest_calls.proofs.Updating.{updates-or-inserts-plain}
use Rattle.bforest_calls.proofs.maps.update_or_insert.Goals as goal
use Rattle.std.proofs.Common.{rules}

pub returns : goal.returns
returns g c = updates-or-inserts-plain (λ v w called. search rules) c.update_or_insert.result c.update_or_insert.ensures
