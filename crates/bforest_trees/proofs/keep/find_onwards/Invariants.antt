use Rattle.bforest_trees.proofs.keep.find_onwards.Given as goal
use Rattle.bforest_trees.specs.Keep.{Nears}
use Rattle.bforest_trees.specs.Layout.{entries_from}
use Rattle.std.proofs.Common.{length, ℕ}

-- the path stands at the key's place or in front of it
abbrev pub invariant-loop-here : goal.invariant-loop-here
invariant-loop-here g l = (root : ℕ) → Nears (g.C.Comparator.order l.comp) l.pool root l.fn.path l.fn.here l.key → Nears (g.C.Comparator.order l.comp) l.pool root l.path l.here l.key

-- the number of entries that are left
abbrev pub decreases-loop-here : goal.decreases-loop-here
decreases-loop-here g l = length (entries_from l.pool l.path)
