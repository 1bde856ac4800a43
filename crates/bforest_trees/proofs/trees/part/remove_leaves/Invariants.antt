use Rattle.bforest_trees.proofs.trees.part.remove_leaves.Given as goal
use Rattle.bforest_core.specs.Trees.{IsUnion}
use Rattle.bforest_trees.specs.Forest.{list_of}
use Rattle.bforest_trees.specs.Place.{AtSpot}
use Rattle.bforest_trees.specs.Thinned.{Thinned}
use Rattle.std.proofs.Common.{length}

-- whole leaves behind the path's went
abbrev pub invariant-loop-next : goal.invariant-loop-next
invariant-loop-next g l = IsUnion g.row.N l.pool
    × ((at : AtSpot l.fn.pool l.fn.handle l.fn.path) → Thinned g.row.N (g.C.Comparator.order l.comp) l.end l.fn.pool l.fn.handle at.place l.pool l.handle l.path)

-- the number of entries
abbrev pub decreases-loop-next : goal.decreases-loop-next
decreases-loop-next g l = length (list_of l.pool l.handle)
