use Rattle.bforest.proofs.set_merge.Merge.next_in_one.Given as goal
use Rattle.bforest.specs.Sides.{in_one}
use Rattle.std.proofs.Common.{length, ◌+◌, ◌≡◌}

-- no key that is to be returned was removed
abbrev pub invariant-loop-step : goal.invariant-loop-step
invariant-loop-step g l = in_one g.C.Comparator.order l.fn.self ≡ in_one g.C.Comparator.order l.self

-- the number of keys that are left
abbrev pub decreases-loop-step : goal.decreases-loop-step
decreases-loop-step g l = length l.self.first + length l.self.second
