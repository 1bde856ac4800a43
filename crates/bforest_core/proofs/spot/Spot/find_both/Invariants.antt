use Rattle.bforest_core.proofs.{Words.{is_gt, ◌-◌, ◌≡◌, false}, walks.Searches.CameTo}
use Rattle.bforest_core.proofs.spot.Spot.find_both.Given as goal

abbrev pub invariant-loop-from : goal.invariant-loop-from
invariant-loop-from g l = CameTo (g.C.Comparator.order l.comp) g.row.N l.pool l.fn.root l.from l.here l.node
    × (is_gt (g.C.Comparator.order l.comp l.from l.to) ≡ false → CameTo (g.C.Comparator.order l.comp) g.row.N l.pool l.fn.root l.to l.here l.node)

abbrev pub decreases-loop-from : goal.decreases-loop-from
decreases-loop-from g l = 17 - l.here.height
