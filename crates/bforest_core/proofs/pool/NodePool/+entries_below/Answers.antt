use Rattle.bforest_core.proofs.Words.{rules, ◌≡◌, ℕ, ◌+◌, length, slice_get, sym, ap, subst, ◌∙◌, arith, length-map}
use Rattle.bforest_core.proofs.Words.{slice_get_within, children_of, entry_count, IsInner}
use Rattle.bforest_core.proofs.union.Summing.{Summing, sum-first, sum-last, sum-next, sum-turn}
use Rattle.bforest_core.proofs.{union.Opened.{inner-children, under-open}, table.Stored.some_same}
use Rattle.bforest_core.proofs.pool.NodePool.+entries_below.Goals as goal

pub child_count-index-end-requires : goal.child_count-index-end-requires
child_count-index-end-requires g t c = let o = under-open c.requires.capacity c.requires.under.3 in (search rules, slice_get_within _ _ _ o.slot_is)

pub loop-index-init : goal.loop-index-init
loop-index-init g t c = λ leaves lower o is. sum-first o (omega (arith, is, c.requires.inner))

pub node-requires : goal.node-requires
node-requires g t c = let o = under-open c.requires.capacity c.requires.under.3 in (search rules, (search rules, slice_get_within _ _ _ o.slot_is))

pub child-requires : goal.child-requires
child-requires g t c = let o = under-open c.requires.capacity c.requires.under.3 in
    let content : c.node.result.now ≡ o.content = some_same (sym c.node.ensures.value ∙ o.slot_is) in
    let n = c.child_count-index-end.ensures.value o.content o.slot_is in let inner = inner-children o.content (omega arith) in
    (search rules, (subst IsInner (sym content) inner.0, (let e = ap entry_count content in omega arith)))

pub entries_below-entries-requires : goal.entries_below-entries-requires
entries_below-entries-requires g t c κs within = let one = c.requires.capacity in let w = c.requires.under in let s = c.loop-index.invariant w.0 w.1 (under-open one w.3) w.4 in
    let content : c.node.result.now ≡ s.opened.content = some_same (sym c.node.ensures.value ∙ s.opened.slot_is) in
    let x = sum-turn s one (ap (λ z. slice_get (children_of z) c.loop-index.index) (sym content) ∙ c.child.ensures.child) in
    (omega (arith, c.requires.inner), (within.0, (within.1, ((λ a m. search rules), (search rules, (one, (omega (arith, c.requires.inner, c.if-level-eq1.false), (x.cut.leaves_left, x.cut.lower_left, x.x.0, x.under, omega (arith, w.4, x.height), omega (arith, w.5, s.sum, x.split)))))))))

pub overflow_add-entries : goal.overflow_add-entries
overflow_add-entries g t c = let one = c.requires.capacity in let w = c.requires.under in let s = c.loop-index.invariant w.0 w.1 (under-open one w.3) w.4 in
    let content : c.node.result.now ≡ s.opened.content = some_same (sym c.node.ensures.value ∙ s.opened.slot_is) in
    let x = sum-turn s one (ap (λ z. slice_get (children_of z) c.loop-index.index) (sym content) ∙ c.child.ensures.child) in
    omega (arith, w.5, s.sum, x.split, c.entries_below-entries.ensures x.cut.leaves_left x.cut.lower_left x.x.0 x.under (omega (arith, w.4, x.height)))

pub loop-index-preserved : goal.loop-index-preserved
loop-index-preserved g t c = λ leaves lower o is. let one = c.requires.capacity in let s = c.loop-index.invariant leaves lower o is in
    let content : c.node.result.now ≡ s.opened.content = some_same (sym c.node.ensures.value ∙ s.opened.slot_is) in
    let x = sum-turn s one (ap (λ z. slice_get (children_of z) c.loop-index.index) (sym content) ∙ c.child.ensures.child) in
    let next = sum-next s x (c.entries_below-entries.ensures x.cut.leaves_left x.cut.lower_left x.x.0 x.under (omega (arith, is, x.height))) in
    subst (λ z. Summing g.row.N c.args.self.now.nodes leaves lower c.args.node z (c.loop-index.entries + c.entries_below-entries.result)) (omega arith) next

pub returns : goal.returns
returns g t c = λ leaves lower first under is. let one = c.requires.capacity in let o = under-open one under in let s = c.loop-index.invariant leaves lower o is in
    sum-last s one (omega (arith, c.child_count-index-end.ensures.value s.opened.content s.opened.slot_is, ap length s.opened.children_are, length-map s.opened.top (λ (e : g.row.K.Denot × ℕ). e.1)))
