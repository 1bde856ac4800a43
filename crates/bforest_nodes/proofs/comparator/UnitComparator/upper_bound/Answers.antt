use Rattle.std.proofs.Common.{arith}
use Rattle.std.proofs.lemmas.Grind.{common_steps}
use Rattle.bforest_nodes.proofs.comparator.UnitComparator.upper_bound.Goals as goal

pub loop-x-preserved : goal.loop-x-preserved
loop-x-preserved g c = grind (arith, common_steps, g.met.K.Ord.matches_partial_cmp)
