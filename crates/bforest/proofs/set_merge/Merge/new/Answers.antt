use Rattle.bforest.proofs.Sides.{increase}
use Rattle.bforest.proofs.set_merge.Merge.new.Goals as goal

pub invariant_of-result : goal.invariant_of-result
invariant_of-result g c = increase g.C.Comparator.order _ _ c.new.ensures.keys c.new-2.ensures.keys c.requires.searchable.increasing c.requires.other.increasing
