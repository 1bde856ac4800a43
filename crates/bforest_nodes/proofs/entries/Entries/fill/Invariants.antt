use Rattle.std.proofs.Common.{length, ◌≤◌}
use Rattle.bforest_nodes.specs.Layout.{HasFront}
use Rattle.bforest_nodes.proofs.entries.Entries.fill.Given as goal

-- the first entries are there
abbrev pub invariant-loop-index : goal.invariant-loop-index
invariant-loop-index g l = (l.index ≤ length (g.S.Source.list l.entries)) × HasFront l.index (g.S.Source.list l.entries) l.self
