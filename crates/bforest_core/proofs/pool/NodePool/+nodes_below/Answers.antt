use Rattle.bforest_core.proofs.Words.{rules, ◌≡◌, ℕ, ◌+◌, ◌≤◌, length, slice_get, suc, sym, ap, subst, ◌∙◌, arith, length-map}
use Rattle.bforest_core.proofs.Words.{slice_get_within, children_of, entry_count, IsInner}
use Rattle.bforest_core.proofs.union.Counting.{Counting, count-turn, counting-first, counting-last, counting-next}
use Rattle.bforest_core.proofs.{union.Opened.{inner-children, under-open}, table.Stored.some_same}
use Rattle.bforest_core.proofs.pool.NodePool.+nodes_below.Goals as goal

pub child_count-index-end-requires : goal.child_count-index-end-requires
child_count-index-end-requires g t c = let o = under-open c.requires.capacity c.requires.under.3 in (search rules, slice_get_within _ _ _ o.slot_is)

pub loop-index-init : goal.loop-index-init
loop-index-init g t c = λ leaves lower o. counting-first o

pub node-requires : goal.node-requires
node-requires g t c = let o = under-open c.requires.capacity c.requires.under.3 in (search rules, (search rules, slice_get_within _ _ _ o.slot_is))

pub child-requires : goal.child-requires
child-requires g t c = let o = under-open c.requires.capacity c.requires.under.3 in
    let content : c.node.result.now ≡ o.content = some_same (sym c.node.ensures.value ∙ o.slot_is) in
    let n = c.child_count-index-end.ensures.value o.content o.slot_is in let inner = inner-children o.content (omega arith) in
    (search rules, (subst IsInner (sym content) inner.0, (let e = ap entry_count content in omega arith)))

pub nodes_below-nodes-requires : goal.nodes_below-nodes-requires
nodes_below-nodes-requires g t c κs within = let one = c.requires.capacity in let w = c.requires.under in let s = c.loop-index.invariant w.0 w.1 (under-open one w.3) in
    let content : c.node.result.now ≡ s.opened.content = some_same (sym c.node.ensures.value ∙ s.opened.slot_is) in
    let x = count-turn s one (ap (λ z. slice_get (children_of z) c.loop-index.index) (sym content) ∙ c.child.ensures.child) in
    let high = s.opened.height (omega (arith, x.low)) in let low : suc (c.args.depth + length x.cut.lower_left) ≤ 16 = omega (arith, w.5, x.cut.left_height, s.height) in
    (omega arith, (within.0, (within.1, ((λ a m. search rules), (search rules, (one, (x.cut.leaves_left, x.cut.lower_left, x.x.0, x.under, omega (arith, w.4, x.fewer), omega arith)))))))

pub overflow_add-nodes : goal.overflow_add-nodes
overflow_add-nodes g t c = let one = c.requires.capacity in let w = c.requires.under in let s = c.loop-index.invariant w.0 w.1 (under-open one w.3) in
    let content : c.node.result.now ≡ s.opened.content = some_same (sym c.node.ensures.value ∙ s.opened.slot_is) in
    let x = count-turn s one (ap (λ z. slice_get (children_of z) c.loop-index.index) (sym content) ∙ c.child.ensures.child) in
    omega (arith, w.4, x.fewer, c.child_count-index-end.ensures.few, c.nodes_below-nodes.ensures x.cut.leaves_left x.cut.lower_left x.x.0 x.under)

pub loop-index-preserved : goal.loop-index-preserved
loop-index-preserved g t c = λ leaves lower o. let one = c.requires.capacity in let s = c.loop-index.invariant leaves lower o in
    let content : c.node.result.now ≡ s.opened.content = some_same (sym c.node.ensures.value ∙ s.opened.slot_is) in
    let x = count-turn s one (ap (λ z. slice_get (children_of z) c.loop-index.index) (sym content) ∙ c.child.ensures.child) in
    let next = counting-next s x (c.nodes_below-nodes.ensures x.cut.leaves_left x.cut.lower_left x.x.0 x.under) in
    subst (λ z. Counting g.row.N c.args.self.now.nodes leaves lower c.args.node z (c.loop-index.nodes + c.nodes_below-nodes.result)) (omega arith) next

pub returns : goal.returns
returns g t c = λ leaves lower first under. let one = c.requires.capacity in let o = under-open one under in let s = c.loop-index.invariant leaves lower o in
    counting-last s one (omega (arith, c.child_count-index-end.ensures.value s.opened.content s.opened.slot_is, ap length s.opened.children_are, length-map s.opened.top (λ (e : g.row.K.Denot × ℕ). e.1)))
