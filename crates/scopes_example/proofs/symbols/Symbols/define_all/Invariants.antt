use Rattle.scopes_example.proofs.symbols.Symbols.define_all.Given as goal
use Rattle.scopes_example.specs.Scopes.{with_all}
use Rattle.std.proofs.Common.{take, ◌≡◌}

abbrev pub invariant-loop-definition : goal.invariant-loop-definition
invariant-loop-definition l = l.self ≡ record l.fn.self { scopes = with_all l.fn.self.scopes (take l.definition-index l.definitions) }
