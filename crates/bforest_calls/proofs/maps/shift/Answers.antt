use Rattle.bforest_calls.proofs.Updating.{shifts-plain}
use Rattle.bforest_calls.proofs.maps.shift.Goals as goal
use Rattle.std.proofs.Common.{rules}

pub returns : goal.returns
returns g c = (shifts-plain (λ k k' called. search rules) c.shift.ensures.shifted, c.shift.ensures.handle)
