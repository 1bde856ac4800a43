use Rattle.bforest_core.proofs.{Words.{ℕ, ◌+◌, ◌-◌, ◌*◌, List, ◌++◌, LevelNode, Distinct, numbers_under}, union.Opened.Opened, union.Sweep.Sweeping}
use Rattle.bforest_core.proofs.pool.NodePool.+freeing.Given as goal

abbrev pub decreases-free_below : goal.decreases-free_below
decreases-free_below g l = 2 * (17 - l.depth) + 1

abbrev pub decreases-free_under : goal.decreases-free_under
decreases-free_under g l = 2 * (17 - l.depth)

-- the first children were freed, with everything below them
abbrev pub invariant-free_under-loop-index : goal.invariant-free_under-loop-index
invariant-free_under-loop-index g l =
    (leaves : List (LevelNode g.row.K.Denot g.row.V.Denot)) (lower : List (List (LevelNode g.row.K.Denot ℕ))) → Distinct (numbers_under leaves lower ++ l.fn.self.chain) → Opened g.row.N l.fn.self.nodes leaves lower l.fn.node → Sweeping g.row.N l.fn.self l.self leaves lower l.fn.node l.index
