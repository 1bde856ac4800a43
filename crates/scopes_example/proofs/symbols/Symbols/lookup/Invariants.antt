use Rattle.bforest_indexed.specs.Indexed.{count, stack}
use Rattle.scopes_example.proofs.symbols.Symbols.lookup.Given as goal
use Rattle.scopes_example.specs.Scopes.{meaning}
use Rattle.std.proofs.Common.{◌≡◌, ◌≤◌}

abbrev pub invariant-loop-depth : goal.invariant-loop-depth
invariant-loop-depth l = (l.depth ≤ count l.self-inside.scopes) × (meaning l.self.scopes l.name ≡ meaning (stack l.self-inside.scopes l.depth) l.name)

abbrev pub decreases-loop-depth : goal.decreases-loop-depth
decreases-loop-depth l = l.depth
