use Rattle.scopes_example.proofs.Stacks.{left}
use Rattle.scopes_example.proofs.symbols.Symbols.leave.Goals as goal

pub returns : goal.returns
returns c = record { left = left _ _ _ _ c.self.view_is c.requires.inside c.clear.ensures.beside }
