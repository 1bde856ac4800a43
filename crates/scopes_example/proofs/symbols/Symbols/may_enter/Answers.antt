use Rattle.scopes_example.proofs.Stacks.{deep, most}
use Rattle.scopes_example.proofs.symbols.Symbols.may_enter.Goals as goal
use Rattle.std.proofs.Common.{arith}
use Rattle.std.proofs.lemmas.Bool.Decides.{nat_tests}

pub returns : goal.returns
returns c = record { may = grind (arith, nat_tests, deep c.self.inside.scopes _ _ _ c.self.view_is, most c.self.inside.scopes _ _ _ c.self.view_is) }
