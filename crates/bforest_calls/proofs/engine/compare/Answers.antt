use Rattle.bforest.specs.Forest.{IsLive, list_of}
use Rattle.bforest_calls.proofs.Comparing.{asks-room, step-of}
use Rattle.bforest_calls.proofs.Indexed.{at_both, is_order, number-lent}
use Rattle.bforest_calls.proofs.Runs.{on_err_from}
use Rattle.bforest_calls.proofs.engine.compare.Goals as goal
use Rattle.bforest_calls.specs.Compared.{Makes}
use Rattle.bforest_calls.specs.Machine.{State}
use Rattle.bforest_calls.specs.State.{Held}
use Rattle.bforest_nodes.specs.Entries.{IsIncreasing}
use Rattle.std.proofs.Common.{inl, inr, map, refl, subst, sym}
use Rattle.std.specs.Prelude.{slice_set}

pub returns-in-Some-clause-step : goal.returns-in-Some-clause-step
returns-in-Some-clause-step g c =
    let t = g.T.Collection in
    let old : State g.row.K.Denot g.row.V.Denot = record { forest = t.trees c.args.forest.now; handles = t.numbers c.args.handles.now } in
    step-of t.most t.READS (map g.C.Comparator.order c.args.comps.now) c.args.h c.args.c old c.in-Some.refused old c.args.call.now c.requires.compares (inl (c.in-Some.ensures.refused, refl))

pub answer-requires-clause-live : goal.answer-requires-clause-live
answer-requires-clause-live g c =
    let t = g.T.Collection in
    let laws = g.met.T.Collection in
    let passed = c.refusal.ensures.made c.in_default.is in
    subst (λ n. IsLive (t.trees c.args.forest.now) n) (sym (number-lent t.number t.numbers laws.counted laws.at c.args.handles.now c.args.h passed.0 c.index-handles-h.result)) passed.2

pub answer-requires-clause-increasing : goal.answer-requires-clause-increasing
answer-requires-clause-increasing g c =
    let t = g.T.Collection in
    let laws = g.met.T.Collection in
    let passed = c.refusal.ensures.made c.in_default.is in
    at_both (λ o n. IsIncreasing o (list_of (t.trees c.args.forest.now) n))
    (sym (is_order g.C.Comparator.order c.args.comps.now c.args.c c.index-comps-c.result c.index-comps-c.is passed.1))
    (sym (number-lent t.number t.numbers laws.counted laws.at c.args.handles.now c.args.h passed.0 c.index-handles-h.result)) passed.3

pub returns-clause-step : goal.returns-clause-step
returns-clause-step g c =
    let t = g.T.Collection in
    let laws = g.met.T.Collection in
    let order = g.C.Comparator.order in
    let comps = c.args.comps.now in
    let xs = c.args.handles.now in
    let forest = t.trees c.args.forest.now in
    let passed = c.refusal.ensures.made c.in_default.is in
    let lent = number-lent t.number t.numbers laws.counted laws.at xs c.args.h passed.0 c.index-handles-h.result in
    let new : State g.row.K.Denot g.row.V.Denot = record { forest = t.trees c.answer.new.forest; handles = t.numbers (slice_set xs c.args.h c.answer.new.self) } in
    let after : Held g.row.K.Denot g.row.V.Denot = record { forest = t.trees c.answer.new.forest; number = t.number c.answer.new.self } in
    step-of t.most t.READS (map order comps) c.args.h c.args.c (record { forest = forest; handles = t.numbers xs }) c.in_ok-given.given new c.args.call.now
    c.requires.compares
    (inr (
      (passed.0, passed.1),
      passed.2,
      passed.3,
      (
        t.number c.answer.new.self,
        laws.written xs c.args.h c.answer.new.self,
        at_both (λ o n. Makes t.most o c.args.call.now (record { forest = forest; number = n }) c.in_ok-given.given after)
            (is_order order comps c.args.c c.index-comps-c.result c.index-comps-c.is passed.1) lent c.in_ok-given.ensures.makes,
      ),
    ))

pub returns-in_err-given-clause-room : goal.returns-in_err-given-clause-room
returns-in_err-given-clause-room g c =
    let t = g.T.Collection in
    let state : State g.row.K.Denot g.row.V.Denot = record { forest = t.trees c.args.forest.now; handles = t.numbers c.args.handles.now } in
    on_err_from c.from_residual.result
    (asks-room t.READS (map g.C.Comparator.order c.args.comps.now) c.args.h c.args.c state (c.refusal.ensures.made c.in_default.is) c.args.call.now c.requires.compares c.in_err-given.ensures.room)
