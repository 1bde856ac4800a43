use Rattle.bforest_core.proofs.Words.{ℕ, List, LevelNode}
use Rattle.bforest_core.proofs.union.EdgeFilled.{FillingEdge}
use Rattle.bforest_core.specs.Detach.{OnEdge}
use Rattle.bforest_core.proofs.path.detach.fill_edge.Given as goal

-- down to the node in hand the edge is filled
abbrev pub invariant-loop-up : goal.invariant-loop-up
invariant-loop-up g l = (leaves : List (LevelNode g.row.K.Denot g.row.V.Denot)) (rows : List (List (LevelNode g.row.K.Denot ℕ))) (first : g.row.K.Denot) (rest : List (g.row.K.Denot × ℕ)) →
    (o : OnEdge g.row.N l.fn.pool l.fn.level l.fn.node leaves rows first rest) → FillingEdge o l.pool l.up l.first

abbrev pub decreases-loop-up : goal.decreases-loop-up
decreases-loop-up g l = l.up
