use Rattle.bforest.proofs.set_merge.Merge.next_in_first.Given as goal
use Rattle.bforest.specs.Sides.{in_first}
use Rattle.std.proofs.Common.{length, ◌+◌, ◌≡◌}

-- no key that is to be returned was removed
abbrev pub invariant-loop-self : goal.invariant-loop-self
invariant-loop-self g l = in_first g.C.Comparator.order l.fn.self ≡ in_first g.C.Comparator.order l.self

-- the number of keys that are left
abbrev pub decreases-loop-self : goal.decreases-loop-self
decreases-loop-self g l = length l.self.first + length l.self.second
