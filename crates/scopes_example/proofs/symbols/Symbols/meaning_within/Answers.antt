use Rattle.scopes_example.proofs.Stacks.{room_within}
use Rattle.scopes_example.proofs.symbols.Symbols.meaning_within.Goals as goal

pub returns-in-Err-clause-room : goal.returns-in-Err-clause-room
returns-in-Err-clause-room c = λ each few. c.in-Err.ensures.room (room_within _ c.enter.ensures.entered each few)
