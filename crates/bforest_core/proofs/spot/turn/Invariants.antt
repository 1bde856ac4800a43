use Rattle.bforest_core.proofs.{Words.{Followed, toward}, walks.Following.Turning}
use Rattle.bforest_core.proofs.spot.turn.Given as goal

abbrev pub invariant-loop-left : goal.invariant-loop-left
invariant-loop-left g l = Followed l.pool.nodes l.fn.root l.code l.height l.left l.here l.node
    × Turning l.pool.nodes l.fn.root l.code l.height (toward l.fn.on) l.left l.here l.found

abbrev pub decreases-loop-left : goal.decreases-loop-left
decreases-loop-left g l = l.left
