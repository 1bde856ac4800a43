use Rattle.bforest_nodes.proofs.row.shift_up.Given as goal
use Rattle.bforest_nodes.proofs.Shifted.{Moved}
use Rattle.std.proofs.Common.{◌-◌, if◌then◌else◌, nat_le}

-- the places before `at` have their final elements
abbrev pub invariant-loop-at : goal.invariant-loop-at
invariant-loop-at g l = Moved (λ j. if nat_le j l.index then j else j - 1) l.old l.items l.at
