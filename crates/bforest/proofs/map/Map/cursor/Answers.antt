use Rattle.bforest.proofs.map.Map.cursor.Goals as goal
use Rattle.std.proofs.Common.{rules}

pub returns-clause-spot : goal.returns-clause-spot
returns-clause-spot g c = search rules steps 1000000
