use Rattle.bforest.proofs.Sides.{over-both}
use Rattle.bforest.proofs.set_merge.Merge.next_in_both.Goals as goal
use Rattle.std.proofs.Common.{◌∙◌}

pub returns : goal.returns
returns g c = let none = over-both g.C.Comparator.order c.loop-self.self c.loop-self-test.ensures.1 in (c.loop-self.invariant ∙ none, none)
