use Rattle.bforest.specs.Forest.{Forest}
use Rattle.bforest_calls.proofs.Slots.{Sifted}
use Rattle.bforest_calls.proofs.known.forget_in.Given as goal
use Rattle.bforest_calls.specs.Machine.{IsKnown, Orders, State, Step}
use Rattle.bforest_calls.specs.declared.call.Answer.{Answer}
use Rattle.std.proofs.Common.{Bool, ℕ}
use Rattle.std.specs.Prelude.{All}

-- the slots so far are known after each step of the call, and the others before it
abbrev pub invariant-loop-slot : goal.invariant-loop-slot
invariant-loop-slot g l = (most : ℕ) (reads : Bool) (orders : Orders g.row.K.Denot) (trees : Forest g.row.K.Denot g.row.V.Denot) (given : Answer g.row.K.Denot g.row.V.Denot)
    (new : State g.row.K.Denot g.row.V.Denot)
    → All (IsKnown orders (record { forest = trees; handles = g.T.Collection.numbers l.handles })) l.fn.slots
    → Step most reads orders (record { forest = trees; handles = g.T.Collection.numbers l.handles }) l.call given new
    → Sifted (IsKnown orders (record { forest = trees; handles = g.T.Collection.numbers l.handles })) (IsKnown orders new) l.slot-index l.slots
