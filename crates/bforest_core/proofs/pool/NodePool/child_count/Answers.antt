use Rattle.bforest_core.proofs.Words.{rules, arith, ◌≡◌, length, slice_get, Some, ap, refl, sym, ◌∙◌, children_of, slice_get_read}
use Rattle.bforest_core.proofs.{table.Stored.{some_same, inner_used, childless}, walks.Reading.not_so}
use Rattle.bforest_core.proofs.pool.NodePool.child_count.Goals as goal

pub entries-requires : goal.entries-requires
entries-requires g c = (search rules, (inner_used _ (c.is_inner.ensures.inner.0 c.if-is_inner.true)).0)

pub returns-then-is_inner-clause-value : goal.returns-then-is_inner-clause-value
returns-then-is_inner-clause-value g c = λ content slot. let within = rw (← c.self.view_is) at c.requires in
    let here : slice_get c.args.self.now.nodes c.args.node ≡ Some c.index-node.result.now = rw (← c.self.view_is, ← c.number.ensures.value)
    (slice_get_read c.self.inside.nodes.items (length c.self.inside.nodes.items) c.number.result c.index-node.result.now refl (omega (arith, within)) c.index-node.ensures) in
    c.entries.ensures.value ∙ (inner_used c.index-node.result.now (c.is_inner.ensures.inner.0 c.if-is_inner.true)).1 ∙ ap (λ z. length (children_of z)) (some_same (sym here ∙ slot))

pub returns-else-is_inner-clause-value : goal.returns-else-is_inner-clause-value
returns-else-is_inner-clause-value g c = λ content slot. let within = rw (← c.self.view_is) at c.requires in
    let here : slice_get c.args.self.now.nodes c.args.node ≡ Some c.index-node.result.now = rw (← c.self.view_is, ← c.number.ensures.value)
    (slice_get_read c.self.inside.nodes.items (length c.self.inside.nodes.items) c.number.result c.index-node.result.now refl (omega (arith, within)) c.index-node.ensures) in
    childless c.index-node.result.now (not_so c.if-is_inner.false c.is_inner.ensures.inner) ∙ ap (λ z. length (children_of z)) (some_same (sym here ∙ slot))
