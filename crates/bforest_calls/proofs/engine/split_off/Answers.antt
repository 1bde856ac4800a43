use Rattle.bforest.specs.Calls.{SplitsOff}
use Rattle.bforest.specs.Forest.{IsLive, list_of}
use Rattle.bforest_calls.proofs.Comparing.{refuses-too}
use Rattle.bforest_calls.proofs.Indexed.{at_both, is_order, number-lent}
use Rattle.bforest_calls.proofs.Making.{parts-for}
use Rattle.bforest_calls.proofs.engine.split_off.Goals as goal
use Rattle.bforest_calls.specs.Machine.{State, number_at, order_at}
use Rattle.bforest_nodes.specs.Entries.{IsIncreasing}
use Rattle.std.proofs.Common.{Err, Ok, inl, inr, map, refl, subst, sym, ◌<◌}
use Rattle.std.specs.Prelude.{IfErr, IfOk}

pub returns-in-Some : goal.returns-in-Some
returns-in-Some g c =
    let into = subst (λ n. c.args.to < n) (sym (g.met.T.Collection.counted c.args.handles.now)) c.if-to-handles.false in
    inl (refuses-too _ _ _ c.in-Some.refused (λ w. (w.0, w.1)) (λ t. (t.0, t.1, into, c.if-to-h.false)) (λ o. o) c.in-Some.ensures.refused, refl)

pub split_off-tail-requires-clause-live : goal.split_off-tail-requires-clause-live
split_off-tail-requires-clause-live g c =
    let t = g.T.Collection in
    let laws = g.met.T.Collection in
    let passed = c.refusal.ensures.made c.in_default.is in
    subst (λ n. IsLive (t.trees c.args.forest.now) n) (sym (number-lent t.number t.numbers laws.counted laws.at c.args.handles.now c.args.h passed.0 c.index-handles-h.result)) passed.2

pub split_off-tail-requires-clause-increasing : goal.split_off-tail-requires-clause-increasing
split_off-tail-requires-clause-increasing g c =
    let t = g.T.Collection in
    let laws = g.met.T.Collection in
    let passed = c.refusal.ensures.made c.in_default.is in
    at_both (λ o n. IsIncreasing o (list_of (t.trees c.args.forest.now) n))
    (sym (is_order g.C.Comparator.order c.args.comps.now c.args.c c.index-comps-c.result c.index-comps-c.is passed.1))
    (sym (number-lent t.number t.numbers laws.counted laws.at c.args.handles.now c.args.h passed.0 c.index-handles-h.result)) passed.3

pub returns : goal.returns
returns g c =
    let t = g.T.Collection in
    let laws = g.met.T.Collection in
    let order = g.C.Comparator.order in
    let comps = c.args.comps.now in
    let xs = c.args.handles.now in
    let forest = t.trees c.args.forest.now in
    let passed = c.refusal.ensures.made c.in_default.is in
    let into = subst (λ n. c.args.to < n) (sym (laws.counted xs)) c.if-to-handles.false in
    let is = is_order order comps c.args.c c.index-comps-c.result c.index-comps-c.is passed.1 in
    let lent = number-lent t.number t.numbers laws.counted laws.at xs c.args.h passed.0 c.index-handles-h.result in
    let s = c.split_off-tail in
    let after = t.trees s.new.forest in
    let own = t.number s.new.self in
    let old : State g.row.K.Denot g.row.V.Denot = record { forest = forest; handles = t.numbers xs } in
    let new : State g.row.K.Denot g.row.V.Denot = record { forest = after; handles = t.numbers c.name.new.handles } in
    inr (
      (passed.0, passed.1, into, c.if-to-h.false),
      passed.2,
      passed.3,
      parts-for t.number s.result c.args.h old new own (laws.written xs c.args.h s.new.self)
          (λ result held. SplitsOff t.most (order_at (map order comps) c.args.c) forest (number_at old c.args.h) c.args.k result held.forest held.number)
          (at_both (λ o n. IfOk s.result (λ tail. SplitsOff t.most o forest n c.args.k (Ok (t.number tail)) after own)) is lent s.ensures.made)
          (at_both (λ o n. IfErr s.result (λ why. SplitsOff t.most o forest n c.args.k (Err why) after own)) is lent s.ensures.refused)
          c.name.ensures.made c.name.ensures.refused,
    )
