use Rattle.bforest_core.proofs.Words.{ℕ, ◌-◌, List, ◌++◌, LevelNode, Distinct, numbers_under}
use Rattle.bforest_core.proofs.union.{Copying.Copying, Opened.Opened}
use Rattle.bforest_core.proofs.pool.NodePool.+copy_below.Given as goal

abbrev pub decreases-copy_below : goal.decreases-copy_below
decreases-copy_below g l = 17 - l.depth

-- the node and what is below its first children is copied
abbrev pub invariant-loop-index : goal.invariant-loop-index
invariant-loop-index g l = (leaves : List (LevelNode g.row.K.Denot g.row.V.Denot)) (lower : List (List (LevelNode g.row.K.Denot ℕ))) → Distinct (numbers_under leaves lower ++ l.fn.self.chain) → Opened g.row.N l.fn.self.nodes leaves lower l.fn.node → Copying g.row.N l.fn.self l.self leaves lower l.fn.node l.copy l.index
