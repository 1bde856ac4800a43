use Rattle.bforest_core.proofs.Words.{◌≤◌, ℕ, List, Follows, LeadsUp}
use Rattle.bforest_core.proofs.walks.Ways.{Gone}
use Rattle.bforest_core.proofs.path.Path.go.Given as goal

abbrev pub invariant-loop-level : goal.invariant-loop-level
invariant-loop-level g l = (l.level ≤ l.way.height) × ((path indices : List ℕ) (size : ℕ) → Follows l.way path indices size → LeadsUp l.pool.nodes l.fn.root path indices size
    → Gone path indices size l.level l.node l.self.node l.self.entry l.self.size)

abbrev pub decreases-loop-level : goal.decreases-loop-level
decreases-loop-level g l = l.level
