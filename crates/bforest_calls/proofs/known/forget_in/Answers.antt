use Rattle.std.proofs.Common.{None, Some, get_or, subst, sym, ◌<◌, ◌≡◌, ◌≤◌}
use Rattle.bforest_calls.proofs.Slots.{sifted-last, sifted-next}
use Rattle.bforest_calls.proofs.Spared.{spared-slot}
use Rattle.bforest_calls.proofs.known.forget_in.Goals as goal
use Rattle.bforest_calls.specs.Machine.{IsKnown, State}
use Rattle.bforest_calls.specs.Spared.{IsSpared}
use Rattle.std.specs.Prelude.{IfSome}

pub returns : goal.returns
returns g c =
    let l = c.loop-slot in
    λ most reads orders trees given new all step. sifted-last (IsKnown orders (record { forest = trees; handles = g.T.Collection.numbers c.args.handles.now })) (IsKnown orders new) l.slot-index l.slots
    (subst (λ m. m ≤ l.slot-index) (sym l.auto.slots) c.loop-slot-test.false) (l.invariant most reads orders trees given new all step)

pub loop-slot-preserved : goal.loop-slot-preserved
loop-slot-preserved g c =
    let l = c.loop-slot in
    λ most reads orders trees given new all step.
    let old : State g.row.K.Denot g.row.V.Denot = record { forest = trees; handles = g.T.Collection.numbers c.args.handles.now } in
    sifted-next (IsKnown orders old) (IsKnown orders new) l.slot-index l.slots None c.spared.result
    (subst (λ m. l.slot-index < m) (sym l.auto.slots) c.loop-slot-test.true)
    (λ known. spared-slot most reads orders old given new c.args.call.now (get_or l.slots l.slot-index None) c.spared.result
    (subst (λ reach. IfSome c.spared.result (λ it. (get_or l.slots l.slot-index None ≡ Some it) × IsSpared old.handles reach it.0)) c.reach_of-reach.ensures c.spared.ensures)
    step known)
    (l.invariant most reads orders trees given new all step)
