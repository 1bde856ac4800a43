use Rattle.scopes_example.proofs.Stacks.{has_room}
use Rattle.scopes_example.proofs.symbols.Symbols.define.Goals as goal

pub returns-clause-room : goal.returns-clause-room
returns-clause-room c = has_room _ _ _ _ c.self.view_is c.requires.inside c.insert.ensures c.self.invariant
