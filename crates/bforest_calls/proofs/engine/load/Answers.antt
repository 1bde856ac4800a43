use Rattle.bforest.specs.Calls.{Loads}
use Rattle.bforest_calls.proofs.Making.{makes-for}
use Rattle.bforest_calls.proofs.Runs.{on_err_from}
use Rattle.bforest_calls.proofs.engine.load.Goals as goal
use Rattle.bforest_calls.specs.Machine.{MakesFor, State}
use Rattle.std.proofs.Common.{inr, subst, sym, ◌<◌}

pub returns-clause-step : goal.returns-clause-step
returns-clause-step g c =
    let t = g.T.Collection in
    let xs = c.args.handles.now in
    let f = t.trees c.args.forest.now in
    let there = subst (λ n. c.args.h < n) (sym (g.met.T.Collection.counted xs)) c.if-h-handles.false in
    let old : State g.row.K.Denot g.row.V.Denot = record { forest = f; handles = t.numbers xs } in
    let new : State g.row.K.Denot g.row.V.Denot = record { forest = t.trees c.load.new.forest; handles = t.numbers c.name.new.handles } in
    let made : MakesFor c.args.h old c.name.result new (Loads t.most f c.deref.result.now) =
    makes-for t.number c.in_ok-loaded.loaded old new (Loads t.most f c.deref.result.now) c.in_ok-loaded.ensures.made c.in_ok-loaded.ensures.refused c.name.ensures.made c.name.ensures.refused in
    λ orders. inr (there, tt, tt, subst (λ es. MakesFor c.args.h old c.name.result new (Loads t.most f es)) c.deref.ensures.value made)

pub returns-in_err-loaded-clause-room : goal.returns-in_err-loaded-clause-room
returns-in_err-loaded-clause-room g c = λ orders. on_err_from c.from_residual.result
    (c.in_err-loaded.ensures.room.0, rw c.deref.ensures.value at c.in_err-loaded.ensures.room.1, subst (λ n. c.args.h < n) (sym (g.met.T.Collection.counted c.args.handles.now)) c.if-h-handles.false)
