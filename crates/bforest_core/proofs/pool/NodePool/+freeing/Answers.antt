use Rattle.bforest_core.proofs.Words.{false≢true, length-map, slice_get_within, IsInner, children_of, entry_count, numbers_down, Under, Frees, numbers_under}
use Rattle.bforest_core.proofs.Words.{rules, ◌≡◌, ℕ, ◌+◌, [], ◌∷◌, length, slice_get, suc, ◌≤◌, sym, ap, subst, ◌∙◌, arith}
use Rattle.bforest_core.proofs.union.Sweep.{Sweeping, child_turn, gives-down, gives-leaf, sweep-first, sweep-last, sweep-next, sweeping}
use Rattle.bforest_core.proofs.{union.Opened.{inner-children, under-open}, table.Stored.some_same, table.Tables.is_used}
use Rattle.bforest_core.proofs.pool.NodePool.+freeing.Goals as goal

pub free_below-node-requires : goal.free_below-node-requires
free_below-node-requires g t c = let o = under-open c.requires.capacity c.requires.under.3 in (search rules, (search rules, slice_get_within _ _ _ o.slot_is))

pub free_below-free_under-requires : goal.free_below-free_under-requires
free_below-free_under-requires g t c κs within =
    (omega arith, (within.0, (within.1, ((λ a m. search rules), (search rules, (c.requires.capacity, c.requires.under))))))

pub free_below-free_node-requires : goal.free_below-free_node-requires
free_below-free_node-requires g t c = let one = c.requires.capacity in let w = c.requires.under in let o = under-open one w.3 in
    let s = sweeping w.4 o (sweep-first one c.args.self.now o.low o.rows o.top o.under) in
    (search rules, is_used c.args.self.now c.args.node o.content o.slot_is s.off_chain)

pub free_below-returns-else-is_inner : goal.free_below-returns-else-is_inner
free_below-returns-else-is_inner g t c = λ leaves lower first under apart. let one = c.requires.capacity in let o = under-open one under in
    let content : c.node.result.now ≡ o.content = some_same (sym c.node.ensures.value ∙ o.slot_is) in
    let other : IsInner o.content → ⊥ = λ i. false≢true (sym c.if-is_inner.false ∙ c.is_inner.ensures.inner.1 (subst IsInner (sym content) i)) in
    rw c.free_node.ensures.freed (gives-leaf one c.args.self.now apart o other)

pub free_under-child_count-index-end-requires : goal.free_under-child_count-index-end-requires
free_under-child_count-index-end-requires g t c = let o = under-open c.requires.capacity c.requires.under.3 in (search rules, slice_get_within _ _ _ o.slot_is)

pub free_under-loop-index-init : goal.free_under-loop-index-init
free_under-loop-index-init g t c = λ leaves lower apart o. sweeping apart o (sweep-first c.requires.capacity _ _ _ _ o.under)

pub free_under-node-requires : goal.free_under-node-requires
free_under-node-requires g t c = let w = c.requires.under in let s = c.loop-index.invariant w.0 w.1 w.4 (under-open c.requires.capacity w.3) in
    (search rules, (search rules, slice_get_within _ _ _ s.slot_is))

pub free_under-child-child-requires : goal.free_under-child-child-requires
free_under-child-child-requires g t c = let w = c.requires.under in let s = c.loop-index.invariant w.0 w.1 w.4 (under-open c.requires.capacity w.3) in
    let content : c.node.result.now ≡ s.opened.content = some_same (sym c.node.ensures.value ∙ s.slot_is) in
    let n = c.child_count-index-end.ensures.value s.opened.content s.opened.slot_is in let inner = inner-children _ (omega arith) in
    (search rules, (subst IsInner (sym content) inner.0, (let e = ap entry_count content in omega arith)))

pub free_under-free_below-requires : goal.free_under-free_below-requires
free_under-free_below-requires g t c κs within =
    let one = c.requires.capacity in let w = c.requires.under in let s = c.loop-index.invariant w.0 w.1 w.4 (under-open one w.3) in
    let content : c.node.result.now ≡ s.opened.content = some_same (sym c.node.ensures.value ∙ s.slot_is) in
    let x = child_turn one s (ap (λ z. slice_get (children_of z) c.loop-index.index) (sym content) ∙ c.child-child.ensures.child) in
    let high = s.opened.height (omega arith) in let low : suc (c.args.depth + length x.3.cut.lower_left) ≤ 16 = omega arith in
    let under = subst (λ z. Under g.row.N c.loop-index.self.nodes x.3.cut.leaves_left x.3.cut.lower_left ((x.0.0, z) ∷ [])) x.1 x.3.under in
    (omega arith, (within.0, (within.1, ((λ a m. search rules), (search rules, (c.requires.capacity, (x.3.cut.leaves_left, x.3.cut.lower_left, x.0.0, under, x.3.apart, omega arith)))))))

pub free_under-loop-index-preserved : goal.free_under-loop-index-preserved
free_under-loop-index-preserved g t c = λ leaves lower apart o. let one = c.requires.capacity in let s = c.loop-index.invariant leaves lower apart o in
    let content = some_same (sym c.node.ensures.value ∙ s.slot_is) in
    let x = child_turn one s (ap (λ z. slice_get (children_of z) c.loop-index.index) (sym content) ∙ c.child-child.ensures.child) in
    let under = subst (λ z. Under g.row.N c.loop-index.self.nodes x.3.cut.leaves_left x.3.cut.lower_left ((x.0.0, z) ∷ [])) x.1 x.3.under in let gone =
    subst (λ z. Frees c.loop-index.self c.free_below.new.self (numbers_under x.3.cut.leaves_left x.3.cut.lower_left) [] (numbers_down c.loop-index.self.nodes (length x.3.cut.lower_left) z)) (sym x.1)
    (c.free_below.ensures x.3.cut.leaves_left x.3.cut.lower_left x.0.0 under x.3.apart) in
    let swept = sweep-next one c.args.self.now s.opened.low s.opened.rows s.opened.top x.0 s.apart x.3 gone in
    subst (Sweeping g.row.N c.args.self.now c.free_below.new.self leaves lower c.args.node) (omega arith) (sweeping apart s.opened swept)

pub free_under-free_node-requires : goal.free_under-free_node-requires
free_under-free_node-requires g t c = let w = c.requires.under in let s = c.loop-index.invariant w.0 w.1 w.4 (under-open c.requires.capacity w.3) in
    (search rules, is_used _ _ _ s.slot_is s.off_chain)

pub free_under-returns : goal.free_under-returns
free_under-returns g t c = λ leaves lower first under apart.
    let one = c.requires.capacity in let s = c.loop-index.invariant leaves lower apart (under-open one under) in let all = sweep-last one _ _ _ _
    (omega (arith, c.child_count-index-end.ensures.value s.opened.content s.opened.slot_is, ap length s.opened.children_are, length-map s.opened.top (λ (e : g.row.K.Denot × ℕ). e.1))) s.swept in
    rw c.free_node.ensures.freed (gives-down s all)
