use Rattle.bforest_core.proofs.{Words.◌-◌, walks.Ways.Came}
use Rattle.bforest_core.proofs.path.way.Way.find.Given as goal

abbrev pub invariant-loop-key : goal.invariant-loop-key
invariant-loop-key g l = Came (g.C.Comparator.order l.comp) g.row.N l.pool l.fn.root l.key l.way

abbrev pub decreases-loop-key : goal.decreases-loop-key
decreases-loop-key g l = 17 - l.way.height
