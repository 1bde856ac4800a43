use Rattle.bforest_core.proofs.Words.{ℕ, ◌-◌, List, LevelNode}
use Rattle.bforest_core.proofs.union.{Counting.Counting, Opened.Opened}
use Rattle.bforest_core.proofs.pool.NodePool.+nodes_below.Given as goal

abbrev pub decreases-nodes_below : goal.decreases-nodes_below
decreases-nodes_below g l = 17 - l.depth

-- the node and what is below its first children is counted
abbrev pub invariant-loop-index : goal.invariant-loop-index
invariant-loop-index g l = (leaves : List (LevelNode g.row.K.Denot g.row.V.Denot)) (lower : List (List (LevelNode g.row.K.Denot ℕ))) → Opened g.row.N l.fn.self.nodes leaves lower l.fn.node → Counting g.row.N l.fn.self.nodes leaves lower l.fn.node l.index l.nodes
