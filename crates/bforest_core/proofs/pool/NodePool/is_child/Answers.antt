use Rattle.bforest_core.proofs.Words.{◌≡◌, suc, ◌+◌, take, slice_get, Some, refl, sym, ap, ◌∙◌, inl, inr, arith, flat_map, cases_lt, false≢true, children_of}
use Rattle.bforest_core.proofs.{Words.count, rows.Counts.{named-more, named-slot}}
use Rattle.bforest_core.proofs.pool.NodePool.is_child.Goals as goal

pub returns-then-names : goal.returns-then-names
returns-then-names g c = (
  λ found. omega (arith, c.names.ensures.0 c.if-names.true, named-slot c.args.self.now.nodes c.new.result c.args.node c.node.ensures.value),
  λ some. refl,
)

pub loop-number-preserved : goal.loop-number-preserved
loop-number-preserved g c = let k = c.loop-number.number in let slots = c.args.self.now.nodes in
    let here : slice_get slots k ≡ Some c.node.result.now = ap (slice_get slots) (sym c.new.ensures.number) ∙ c.node.ensures.value in
    let none : count c.args.node (children_of c.node.result.now) ≡ 0 = elim (cases_lt 0 (count c.args.node (children_of c.node.result.now))) [ inl some ↦ absurd (false≢true (sym c.if-names.false ∙ c.names.ensures.1 some)) | inr past ↦ omega (arith, past) ] in
    let next : k + 1 ≡ suc k = omega arith in
    ap (λ z. count c.args.node (flat_map children_of (take z slots))) next ∙ omega (arith, named-more slots k c.args.node here, none)
