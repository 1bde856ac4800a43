use Rattle.bforest.proofs.map_iter.MapIter.new.Goals as goal
use Rattle.std.proofs.Common.{rules}

pub returns-clause-entries : goal.returns-clause-entries
returns-clause-entries g c = search rules steps 1000000
