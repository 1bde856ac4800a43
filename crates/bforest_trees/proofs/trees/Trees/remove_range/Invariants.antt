use Rattle.bforest_trees.proofs.ranges.Parting.{Parting}
use Rattle.bforest_trees.proofs.trees.Trees.remove_range.Given as goal
use Rattle.bforest_trees.specs.Forest.{list_of}
use Rattle.std.proofs.Common.{length}

-- the entries in front of the path, from the start on, were removed
abbrev pub invariant-loop-changed : goal.invariant-loop-changed
invariant-loop-changed g l = Parting g.row.N (g.C.Comparator.order l.comp) l.fn.bounds.0 l.fn.bounds.1 l.initial.self l.initial.handle l.self l.handle l.path l.changed

-- the number of entries
abbrev pub decreases-loop-changed : goal.decreases-loop-changed
decreases-loop-changed g l = length (list_of l.self l.handle)
