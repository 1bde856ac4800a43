use Rattle.bforest_trees.proofs.Shifting.{Shifting}
use Rattle.bforest_trees.proofs.shift.shift.Given as goal
use Rattle.bforest_trees.specs.Layout.{entries_from}
use Rattle.bforest_core.specs.Paths.{StandsAt}
use Rattle.std.proofs.Common.{length, ℕ}

-- the entries in front of the path, from where it stood at first, have new keys
abbrev pub invariant-loop-entry : goal.invariant-loop-entry
invariant-loop-entry g l = (first : ℕ) → StandsAt l.fn.pool l.fn.root l.fn.path first → Shifting (goal.F-post g l.fn.change) g.row.N l.fn.pool l.pool l.fn.root first l.path

-- the number of entries that are left
abbrev pub decreases-loop-entry : goal.decreases-loop-entry
decreases-loop-entry g l = length (entries_from l.pool l.path)
