use Rattle.bforest.proofs.map.Map.into_iter.Goals as goal
use Rattle.std.proofs.Common.{rules}

pub returns : goal.returns
returns g c = search rules steps 1000000
