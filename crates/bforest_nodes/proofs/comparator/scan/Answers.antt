use Rattle.std.proofs.Common.{arith, get_or, refl, sym, ap, inl, inr, ◌∙◌}
use Rattle.std.proofs.lemmas.Bool.Decides.{eqb_tells}
use Rattle.std.proofs.lemmas.List.{get_or_default}
use Rattle.std.specs.Ordering.{is_lt}
use Rattle.bforest_nodes.proofs.Searched.{stopped-end, stopped-equal, stopped-greater}
use Rattle.bforest_nodes.proofs.comparator.scan.Goals as goal

pub loop-x-init : goal.loop-x-init
loop-x-init g c = (refl, λ j d low. absurd (omega (arith, low)))

pub returns-in-Equal : goal.returns-in-Equal
returns-in-Equal g c = λ sorted.
    let same = c.loop-x.invariant.0 in
    stopped-equal g.K.Ord.cmp g.met.K.Ord.total c.args.s.now c.args.k sorted c.loop-x.at c.loop-x.invariant.1 c.x-item.result (omega (arith, same, c.loop-x-test.true)) (c.x-item.is ∙ ap (λ i. get_or c.args.s.now i c.x-item.result) (sym same)) (sym c.cmp.ensures ∙ c.in-Equal.is)

pub returns-in-Greater : goal.returns-in-Greater
returns-in-Greater g c = λ sorted.
    let same = c.loop-x.invariant.0 in
    stopped-greater g.K.Ord.cmp g.met.K.Ord.total c.args.s.now c.args.k sorted c.loop-x.at c.loop-x.invariant.1 c.x-item.result (omega (arith, same, c.loop-x-test.true)) (c.x-item.is ∙ ap (λ i. get_or c.args.s.now i c.x-item.result) (sym same)) (sym c.cmp.ensures ∙ c.in-Greater.is)

pub loop-x-preserved : goal.loop-x-preserved
loop-x-preserved g c =
    let same = c.loop-x.invariant.0 in (
      omega (arith, same),
      λ j d low. elim (eqb_tells j c.loop-x.at) [
        | inl w ↦ ap (λ i. is_lt (g.K.Ord.cmp (get_or c.args.s.now i d) c.args.k)) (w.1 ∙ same) ∙ ap (λ x. is_lt (g.K.Ord.cmp x c.args.k)) (get_or_default c.args.s.now c.loop-x.x-index d c.x-item.result c.loop-x-test.true ∙ sym c.x-item.is) ∙ ap is_lt (sym c.cmp.ensures ∙ c.in-Less.is)
        | inr w ↦ c.loop-x.invariant.1 j d (let ne = w.1 in omega (arith, ne, low))
      ],
    )

pub returns : goal.returns
returns g c = λ sorted.
    let same = c.loop-x.invariant.0 in
    stopped-end g.K.Ord.cmp g.met.K.Ord.total c.args.s.now c.args.k sorted c.loop-x.at c.loop-x.invariant.1 (omega (arith, same, c.loop-x-test.false, c.loop-x.auto.x-index-end))
