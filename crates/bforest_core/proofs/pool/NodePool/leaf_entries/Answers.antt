use Rattle.bforest_core.proofs.Words.{rules, ◌≡◌, ℕ, ◌+◌, length, slice_get, sym, ap, subst, ◌∙◌, arith, length-map}
use Rattle.bforest_core.proofs.Words.{slice_get_within, children_of, entry_count, IsFree, IsInner}
use Rattle.bforest_core.proofs.union.Summing.{Summing, leaf-many, sum-first, sum-last, sum-next, sum-turn}
use Rattle.bforest_core.proofs.{union.Opened.{inner-children, under-open}, table.Stored.some_same}
use Rattle.bforest_core.proofs.pool.NodePool.leaf_entries.Goals as goal

pub child_count-index-end-requires : goal.child_count-index-end-requires
child_count-index-end-requires g c = let o = under-open c.requires.capacity c.requires.under.3 in (search rules, slice_get_within _ _ _ o.slot_is)

pub loop-index-init : goal.loop-index-init
loop-index-init g c = λ leaves lower o is. sum-first o (omega (arith, is))

pub node-requires : goal.node-requires
node-requires g c = let o = under-open c.requires.capacity c.requires.under.3 in (search rules, (search rules, slice_get_within _ _ _ o.slot_is))

pub child-leaf-requires : goal.child-leaf-requires
child-leaf-requires g c = let o = under-open c.requires.capacity c.requires.under.3 in
    let content : c.node.result.now ≡ o.content = some_same (sym c.node.ensures.value ∙ o.slot_is) in
    let n = c.child_count-index-end.ensures.value o.content o.slot_is in let inner = inner-children o.content (omega arith) in
    (search rules, (subst IsInner (sym content) inner.0, (let e = ap entry_count content in omega arith)))

pub node-requires-in-loop-index : goal.node-requires-in-loop-index
node-requires-in-loop-index g c = let one = c.requires.capacity in let w = c.requires.under in let s = c.loop-index.invariant w.0 w.1 (under-open one w.3) w.4 in
    let content : c.node.result.now ≡ s.opened.content = some_same (sym c.node.ensures.value ∙ s.opened.slot_is) in
    let x = sum-turn s one (ap (λ z. slice_get (children_of z) c.loop-index.index) (sym content) ∙ c.child-leaf.ensures.child) in
    let o = under-open one x.under in (search rules, (search rules, slice_get_within _ _ _ o.slot_is))

pub entries-entries-requires : goal.entries-entries-requires
entries-entries-requires g c = let one = c.requires.capacity in let w = c.requires.under in let s = c.loop-index.invariant w.0 w.1 (under-open one w.3) w.4 in
    let content : c.node.result.now ≡ s.opened.content = some_same (sym c.node.ensures.value ∙ s.opened.slot_is) in
    let x = sum-turn s one (ap (λ z. slice_get (children_of z) c.loop-index.index) (sym content) ∙ c.child-leaf.ensures.child) in
    let o = under-open one x.under in let leaf : c.node-in-loop-index.result.now ≡ o.content = some_same (sym c.node-in-loop-index.ensures.value ∙ o.slot_is) in
    let many = leaf-many o (omega (arith, w.4, x.height)) in (search rules, subst (λ z. ¬ IsFree z) (sym leaf) many.0)

pub overflow_add-entries : goal.overflow_add-entries
overflow_add-entries g c = let one = c.requires.capacity in let w = c.requires.under in let s = c.loop-index.invariant w.0 w.1 (under-open one w.3) w.4 in
    let content : c.node.result.now ≡ s.opened.content = some_same (sym c.node.ensures.value ∙ s.opened.slot_is) in
    let x = sum-turn s one (ap (λ z. slice_get (children_of z) c.loop-index.index) (sym content) ∙ c.child-leaf.ensures.child) in
    let o = under-open one x.under in let leaf : c.node-in-loop-index.result.now ≡ o.content = some_same (sym c.node-in-loop-index.ensures.value ∙ o.slot_is) in
    let many = leaf-many o (omega (arith, w.4, x.height)) in
    omega (arith, w.5, s.sum, x.split, many.1, ap entry_count leaf, c.entries-entries.ensures.value)

pub loop-index-preserved : goal.loop-index-preserved
loop-index-preserved g c = λ leaves lower o' is. let one = c.requires.capacity in let s = c.loop-index.invariant leaves lower o' is in
    let content : c.node.result.now ≡ s.opened.content = some_same (sym c.node.ensures.value ∙ s.opened.slot_is) in
    let x = sum-turn s one (ap (λ z. slice_get (children_of z) c.loop-index.index) (sym content) ∙ c.child-leaf.ensures.child) in
    let o = under-open one x.under in let leaf : c.node-in-loop-index.result.now ≡ o.content = some_same (sym c.node-in-loop-index.ensures.value ∙ o.slot_is) in
    let many = leaf-many o (omega (arith, is, x.height)) in
    let next = sum-next s x (c.entries-entries.ensures.value ∙ ap entry_count leaf ∙ many.1) in
    subst (λ z. Summing g.row.N c.args.self.now.nodes leaves lower c.args.node z (c.loop-index.entries + c.entries-entries.result)) (omega arith) next

pub returns : goal.returns
returns g c = λ leaves lower first under is. let one = c.requires.capacity in let o = under-open one under in let s = c.loop-index.invariant leaves lower o is in
    sum-last s one (omega (arith, c.child_count-index-end.ensures.value s.opened.content s.opened.slot_is, ap length s.opened.children_are, length-map s.opened.top (λ (e : g.row.K.Denot × ℕ). e.1)))
