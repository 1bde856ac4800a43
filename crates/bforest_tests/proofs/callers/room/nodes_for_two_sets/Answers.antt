use Rattle.bforest.proofs.Enough.{never-fewer}
use Rattle.bforest_tests.proofs.callers.room.nodes_for_two_sets.Goals as goal

pub returns : goal.returns
returns g c = record { ordered = never-fewer 15 c.args.keys c.args.fewer _ _ c.nodes_for-2.ensures.enough c.nodes_for.ensures.met c.requires.ordered }
