use Rattle.bforest.specs.Forest.{IsLive, list_of}
use Rattle.bforest_calls.proofs.Comparing.{step-beside}
use Rattle.bforest_calls.proofs.Indexed.{at_both, is_order, number-lent, order-there}
use Rattle.bforest_calls.proofs.engine.beside.Goals as goal
use Rattle.bforest_calls.proofs.engine.beside.Goals.{then-not-is_live-via-then-not-is_live, then-not-is_live-via-else-not-is_live+then-not-is_live-2}
use Rattle.bforest_calls.specs.Beside.{MakesBeside}
use Rattle.bforest_calls.specs.Machine.{State, order_at}
use Rattle.bforest_calls.specs.State.{Held}
use Rattle.bforest_calls.specs.declared.call.Answer.TheVariants as answer
use Rattle.bforest_nodes.specs.Entries.{IsIncreasing}
use Rattle.std.proofs.Common.{Bool, IsTrue, None, ap, false, get_or, inl, inr, map, refl, subst, sym, true, ◌<◌, ◌∙◌, ◌≡◌}
use Rattle.std.specs.Prelude.{slice_set}

not-told : {b : Bool} → b ≡ false → IsTrue b → ⊥
not-told off on = absurd (let bad : true ≡ false = sym on ∙ off in cc)

pub returns-then-not-is_live : goal.returns-then-not-is_live
returns-then-not-is_live g c =
    let t = g.T.Collection in
    let laws = g.met.T.Collection in
    let order = g.C.Comparator.order in
    let xs = c.args.handles.now in
    let forest = t.trees c.args.forest.now in
    let there = subst (λ n. c.args.h < n) (sym (laws.counted xs)) c.if-h-handles.false in
    let other_there = subst (λ n. c.args.o < n) (sym (laws.counted xs)) c.if-o-handles.false in
    let lent = number-lent t.number t.numbers laws.counted laws.at xs c.args.h there in
    let other_lent = number-lent t.number t.numbers laws.counted laws.at xs c.args.o other_there in
    let old : State g.row.K.Denot g.row.V.Denot = record { forest = forest; handles = t.numbers xs } in
    step-beside t.most t.READS (map order c.args.comps.now) c.args.h c.args.o c.args.c old answer.Dead old c.args.call.now c.requires.beside (inl (
      (
        (there, other_there, order-there order c.args.comps.now c.args.c c.if-c-comps.false),
        λ live. elim c.then-not-is_live.branch [
          | then-not-is_live-via-then-not-is_live w ↦ not-told w.if-not-is_live.true (c.is_live.ensures.live.1 (subst (λ n. IsLive forest n) (sym (lent c.index-handles-h.result)) live.0))
          | then-not-is_live-via-else-not-is_live+then-not-is_live-2 w ↦ not-told w.if-not-is_live-2.true (w.is_live-else-not-is_live.ensures.live.1 (subst (λ n. IsLive forest n) (sym (other_lent w.index-handles-o.result)) live.1))
        ],
      ),
      refl,
    ))

pub answer_beside-requires-clause-beside : goal.answer_beside-requires-clause-beside
answer_beside-requires-clause-beside g c = (c.args.h, c.args.o, c.args.c, c.requires.beside)

pub returns : goal.returns
returns g c =
    let t = g.T.Collection in
    let laws = g.met.T.Collection in
    let order = g.C.Comparator.order in
    let comps = c.args.comps.now in
    let xs = c.args.handles.now in
    let forest = t.trees c.args.forest.now in
    let there = subst (λ n. c.args.h < n) (sym (laws.counted xs)) c.if-h-handles.false in
    let other_there = subst (λ n. c.args.o < n) (sym (laws.counted xs)) c.if-o-handles.false in
    let order_there = order-there order comps c.args.c c.if-c-comps.false in
    let lent = number-lent t.number t.numbers laws.counted laws.at xs c.args.h there in
    let other_lent = number-lent t.number t.numbers laws.counted laws.at xs c.args.o other_there in
    let is = is_order order comps c.args.c c.index-comps-c.result c.index-comps-c.is order_there in
    let after : Held g.row.K.Denot g.row.V.Denot = record { forest = t.trees c.answer_beside.new.forest; number = t.number c.answer_beside.new.self } in
    let new : State g.row.K.Denot g.row.V.Denot = record { forest = after.forest; handles = t.numbers (slice_set xs c.args.h c.answer_beside.new.self) } in
    step-beside t.most t.READS (map order comps) c.args.h c.args.o c.args.c (record { forest = forest; handles = t.numbers xs }) c.answer_beside.result new c.args.call.now c.requires.beside (inr (
      (there, other_there, order_there),
      (
        subst (λ n. IsLive forest n) (lent c.index-handles-h.result) (c.is_live.ensures.live.0 c.if-not-is_live.false),
        subst (λ n. IsLive forest n) (other_lent c.index-handles-o.result) (c.is_live-else-not-is_live.ensures.live.0 c.if-not-is_live-2.false),
      ),
      (
        at_both (λ o n. IsIncreasing o (list_of forest n)) is (lent c.index-handles-h-2.result) (c.increases.ensures.increasing.0 c.if-not-increases.false),
        at_both (λ o n. IsIncreasing o (list_of forest n)) is (other_lent c.index-handles-o-else-not-increases.result) (c.increases-else-not-increases.ensures.increasing.0 c.if-not-increases-2.false),
      ),
      (
        after.number,
        laws.written xs c.args.h c.answer_beside.new.self,
        subst (λ theirs. MakesBeside t.most (order_at (map order comps) c.args.c) theirs c.args.call.now (record { forest = forest; number = get_or (t.numbers xs) c.args.h None }) c.answer_beside.result after)
            (ap t.number c.alias-other.ensures.same ∙ other_lent c.index-handles-o-2.result)
            (at_both (λ o n. MakesBeside t.most o (t.number c.alias-other.result) c.args.call.now (record { forest = forest; number = n }) c.answer_beside.result after) is (lent c.index-handles-h-3.result) c.answer_beside.ensures.makes),
      ),
    ))
