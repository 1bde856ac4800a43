use Rattle.bforest_indexed.proofs.Shorter.{IsShortening}
use Rattle.bforest_indexed.proofs.maps.Maps.truncate.Given as goal
use Rattle.bforest_indexed.specs.Indexed.{count}

abbrev pub invariant-loop-self : goal.invariant-loop-self
invariant-loop-self g l = IsShortening l.fn.self l.len l.self

abbrev pub decreases-loop-self : goal.decreases-loop-self
decreases-loop-self g l = count l.self
