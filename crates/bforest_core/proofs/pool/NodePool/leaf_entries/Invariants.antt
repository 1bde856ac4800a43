use Rattle.bforest_core.proofs.Words.{◌≡◌, ℕ, List, LevelNode, length}
use Rattle.bforest_core.proofs.union.{Opened.Opened, Summing.Summing}
use Rattle.bforest_core.proofs.pool.NodePool.leaf_entries.Given as goal

-- what is below the first children is counted
abbrev pub invariant-loop-index : goal.invariant-loop-index
invariant-loop-index g l = (leaves : List (LevelNode g.row.K.Denot g.row.V.Denot)) (lower : List (List (LevelNode g.row.K.Denot ℕ))) → Opened g.row.N l.fn.self.nodes leaves lower l.fn.node → length lower ≡ 1 → Summing g.row.N l.fn.self.nodes leaves lower l.fn.node l.index l.entries
