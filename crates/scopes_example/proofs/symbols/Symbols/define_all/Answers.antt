use Rattle.scopes_example.proofs.Stacks.{room_next}
use Rattle.scopes_example.proofs.symbols.Symbols.define_all.Goals as goal

pub returns-in_err-define-clause-room : goal.returns-in_err-define-clause-room
returns-in_err-define-clause-room c = λ room. absurd (let ok = c.in_err-define.ensures.room (room_next c.args.self.now c.args.definitions.now c.loop-definition.definition-index c.loop-definition.invariant c.loop-definition-test.true _ room) in cc)
