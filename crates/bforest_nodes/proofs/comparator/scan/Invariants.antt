use Rattle.std.proofs.Common.{get_or, true, ◌<◌, ◌≡◌, ℕ}
use Rattle.std.specs.Ordering.{is_lt}
use Rattle.bforest_nodes.proofs.comparator.scan.Given as goal

-- the keys before the index are less
abbrev pub invariant-loop-x : goal.invariant-loop-x
invariant-loop-x g l = (l.at ≡ l.x-index) × ((j : ℕ) (d : g.row.K.Denot) → j < l.at → is_lt (g.K.Ord.cmp (get_or l.s j d) l.k) ≡ true)
