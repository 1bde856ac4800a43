use Rattle.bforest_calls.proofs.sets.keys_of.Given as goal
use Rattle.bforest_calls.specs.Looks.{with_each}
use Rattle.std.proofs.Common.{take, ◌≡◌}

-- the keys so far are those of the first entries
abbrev pub invariant-loop-entry : goal.invariant-loop-entry
invariant-loop-entry g l = with_each l.keys.items ≡ take l.entry-index l.entries
