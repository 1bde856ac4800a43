use Rattle.bforest_calls.proofs.Comparing.{step-alone}
use Rattle.bforest_calls.proofs.Indexed.{number-lent}
use Rattle.bforest_calls.proofs.engine.alone.Goals as goal
use Rattle.bforest_calls.specs.Alone.{MakesAlone}
use Rattle.bforest_calls.specs.Machine.{State}
use Rattle.bforest_calls.specs.State.{Held}
use Rattle.std.proofs.Common.{inl, inr, refl, subst}
use Rattle.std.specs.Prelude.{slice_set}

pub returns-in-Some : goal.returns-in-Some
returns-in-Some g c =
    let t = g.T.Collection in
    let old : State g.row.K.Denot g.row.V.Denot = record { forest = t.trees c.args.forest.now; handles = t.numbers c.args.handles.now } in
    λ orders. step-alone t.most t.READS orders c.args.h old c.in-Some.given old c.args.call.now c.requires.alone (inl (c.in-Some.ensures.refused, refl))

pub returns : goal.returns
returns g c =
    let t = g.T.Collection in
    let laws = g.met.T.Collection in
    let xs = c.args.handles.now in
    let forest = t.trees c.args.forest.now in
    let passed = c.unnamed.ensures.made c.in_default.is in
    let lent = number-lent t.number t.numbers laws.counted laws.at xs c.args.h passed.0 c.index-handles-h.result in
    let after : Held g.row.K.Denot g.row.V.Denot = record { forest = t.trees c.answer_alone.new.forest; number = t.number c.answer_alone.new.self } in
    let new : State g.row.K.Denot g.row.V.Denot = record { forest = after.forest; handles = t.numbers (slice_set xs c.args.h c.answer_alone.new.self) } in
    let made = subst (λ n. MakesAlone t.most c.args.call.now (record { forest = forest; number = n }) c.answer_alone.result after) lent c.answer_alone.ensures.makes in
    λ orders. step-alone t.most t.READS orders c.args.h (record { forest = forest; handles = t.numbers xs }) c.answer_alone.result new c.args.call.now
    c.requires.alone (inr (passed.0, passed.1, tt, (after.number, laws.written xs c.args.h c.answer_alone.new.self, made)))
