use Rattle.bforest_core.proofs.Words.{ℕ, List, LevelNode}
use Rattle.bforest_core.proofs.union.Emptying.{Emptying}
use Rattle.bforest_core.specs.Cut.{Between}
use Rattle.bforest_core.proofs.pool.NodePool.free_children.Given as goal

-- what is below the first of these children is freed
abbrev pub invariant-loop-index : goal.invariant-loop-index
invariant-loop-index g l = (leaves : List (LevelNode g.row.K.Denot g.row.V.Denot)) (lower : List (List (LevelNode g.row.K.Denot ℕ))) (top : List (g.row.K.Denot × ℕ)) → (b : Between g.row.N l.fn.self l.fn.node l.fn.from l.fn.to leaves lower top) → Emptying b l.self l.index
