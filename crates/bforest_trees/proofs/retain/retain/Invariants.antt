use Rattle.bforest_core.specs.Paths.{list_under}
use Rattle.bforest_trees.proofs.Sifting.{Sifting}
use Rattle.bforest_trees.proofs.retain.retain.Given as goal
use Rattle.bforest_trees.specs.Layout.{entries_from}
use Rattle.std.proofs.Common.{length, slice_get, ◌≡◌}

-- the entries in front of the path are asked, and its own was read
abbrev pub invariant-loop-here : goal.invariant-loop-here
invariant-loop-here g l = (s : Sifting g.row.N g.P.Predicate.step g.P.Predicate.may l.fn.pool l.fn.root l.fn.predicate l.pool l.root l.predicate l.path)
    × (l.here ≡ slice_get (list_under l.pool l.root) s.place)

-- the number of entries that are left
abbrev pub decreases-loop-here : goal.decreases-loop-here
decreases-loop-here g l = length (entries_from l.pool l.path)
