use Rattle.bforest_calls.proofs.Adding.{step-adds}
use Rattle.bforest_calls.proofs.Slots.{learned}
use Rattle.bforest_calls.proofs.engine.make.Goals as goal
use Rattle.bforest_calls.specs.Machine.{IsKnown, Orders, State}
use Rattle.bforest_calls.specs.State.{AddsUp}
use Rattle.std.proofs.Common.{ap, map, subst, sym}

pub returns-clause-known : goal.returns-clause-known
returns-clause-known g c =
    let t = g.T.Collection in
    let orders : Orders g.row.K.Denot = map g.C.Comparator.order c.args.comps.now in
    let old : State g.row.K.Denot g.row.V.Denot = record { forest = t.trees c.args.forest.now; handles = t.numbers c.args.handles.now } in
    let new : State g.row.K.Denot g.row.V.Denot = record { forest = t.trees c.make_by.new.forest; handles = t.numbers c.make_by.new.handles } in
    let step = c.in_ok-given.ensures.step in
    learned (IsKnown orders new) c.known_by.result c.forget.new.self.slots c.learn.new.self.slots c.learn.ensures.nothing c.learn.ensures.told
    (c.known_by.ensures t.most t.READS orders old new step)
    (c.forget.ensures t.most t.READS orders old.forest c.in_ok-given.given new c.requires.known step)

pub returns-clause-adds_up : goal.returns-clause-adds_up
returns-clause-adds_up g c =
    let t = g.T.Collection in
    let orders : Orders g.row.K.Denot = map g.C.Comparator.order c.args.comps.now in
    let old : State g.row.K.Denot g.row.V.Denot = record { forest = t.trees c.args.forest.now; handles = t.numbers c.args.handles.now } in
    let new : State g.row.K.Denot g.row.V.Denot = record { forest = t.trees c.make_by.new.forest; handles = t.numbers c.make_by.new.handles } in
    step-adds t.most g.met.T.Collection.odd t.READS orders old c.args.call.now c.in_ok-given.given new c.in_ok-given.ensures.step

pub returns-in_err-given-clause-adds_up : goal.returns-in_err-given-clause-adds_up
returns-in_err-given-clause-adds_up g c = let t = g.T.Collection in
    subst (λ f. AddsUp t.most f) (sym (ap t.trees c.in_err-given.ensures.err_forest))
