use Rattle.bforest_core.proofs.Words.{rules, ◌≡◌, ℕ, ◌+◌, ◌≤◌, [], ◌∷◌, ◌++◌, length, length-append, slice_get, suc, sym, ap, subst, ◌∙◌, arith, length-map}
use Rattle.bforest_core.proofs.Words.{slice_get_within, children_of, entry_count, IsInner, numbers_under}
use Rattle.bforest_core.proofs.union.Copying.{Copying, copy-here, copy-turn, copying-last, copying-next, copying-start, node_kept, partly-kids, turn_room}
use Rattle.bforest_core.proofs.{union.Account.length-same, union.Opened.{inner-children, under-open}, table.Stored.some_same, table.Tables.{count-append, count-same, is_used}}
use Rattle.bforest_core.proofs.table.Trading.{puts}
use Rattle.bforest_core.proofs.pool.NodePool.+copy_below.Goals as goal

pub copy_node-copy-requires : goal.copy_node-copy-requires
copy_node-copy-requires g t c = let w = c.requires.under in let o = under-open c.requires.capacity w.3 in (
  search rules,
  (
    is_used c.args.self.now c.args.node o.content o.slot_is (omega (arith, w.4 c.args.node, o.counted c.args.node, count-same c.args.node [], count-append)),
    omega (arith, w.6, length-same (numbers_under w.0 w.1) (numbers_under o.low o.rows ++ c.args.node ∷ []) (λ m. omega (arith, o.counted m, count-append)), length-append (numbers_under o.low o.rows) (c.args.node ∷ [])),
  ),
)

pub child_count-index-end-requires : goal.child_count-index-end-requires
child_count-index-end-requires g t c = let w = c.requires.under in let o = under-open c.requires.capacity w.3 in
    let s = copying-start w.4 o c.copy_node-copy.ensures.node (c.copy_node-copy.ensures.table o.content o.slot_is) c.copy_node-copy.ensures.used in
    (search rules, slice_get_within _ _ _ (node_kept s ∙ o.slot_is))

pub loop-index-init : goal.loop-index-init
loop-index-init g t c = λ leaves lower apart o. copying-start apart o c.copy_node-copy.ensures.node (c.copy_node-copy.ensures.table o.content o.slot_is) c.copy_node-copy.ensures.used

pub node-requires : goal.node-requires
node-requires g t c = let w = c.requires.under in let s = c.loop-index.invariant w.0 w.1 w.4 (under-open c.requires.capacity w.3) in
    (search rules, (search rules, slice_get_within _ _ _ (node_kept s ∙ s.opened.slot_is)))

pub child-child-requires : goal.child-child-requires
child-child-requires g t c = let w = c.requires.under in let o = under-open c.requires.capacity w.3 in let s = c.loop-index.invariant w.0 w.1 w.4 o in
    let start = copying-start w.4 o c.copy_node-copy.ensures.node (c.copy_node-copy.ensures.table o.content o.slot_is) c.copy_node-copy.ensures.used in
    let content : c.node.result.now ≡ s.opened.content = some_same (sym c.node.ensures.value ∙ (node_kept s ∙ s.opened.slot_is)) in
    let n = c.child_count-index-end.ensures.value s.opened.content (node_kept start ∙ s.opened.slot_is) in let inner = inner-children s.opened.content (omega arith) in
    (search rules, (subst IsInner (sym content) inner.0, (let e = ap entry_count content in omega arith)))

pub copy_below-made-requires : goal.copy_below-made-requires
copy_below-made-requires g t c κs within = let one = c.requires.capacity in let w = c.requires.under in let s = c.loop-index.invariant w.0 w.1 w.4 (under-open one w.3) in
    let content : c.node.result.now ≡ s.opened.content = some_same (sym c.node.ensures.value ∙ (node_kept s ∙ s.opened.slot_is)) in
    let x = copy-turn s one (ap (λ z. slice_get (children_of z) c.loop-index.index) (sym content) ∙ c.child-child.ensures.child) in
    let high = s.opened.height (omega (arith, x.low)) in let low : suc (c.args.depth + length x.cut.lower_left) ≤ 16 = omega (arith, w.5, x.cut.left_height, s.height) in
    (omega arith, (within.0, (within.1, ((λ a m. search rules), (search rules, (one, (x.cut.leaves_left, x.cut.lower_left, x.x.0, x.under, x.apart, omega arith, turn_room s x w.6)))))))

pub set_child-requires : goal.set_child-requires
set_child-requires g t c = let one = c.requires.capacity in let w = c.requires.under in let o = under-open one w.3 in let s = c.loop-index.invariant w.0 w.1 w.4 o in
    let start = copying-start w.4 o c.copy_node-copy.ensures.node (c.copy_node-copy.ensures.table o.content o.slot_is) c.copy_node-copy.ensures.used in
    let n = c.child_count-index-end.ensures.value s.opened.content (node_kept start ∙ s.opened.slot_is) in
    let content : c.node.result.now ≡ s.opened.content = some_same (sym c.node.ensures.value ∙ (node_kept s ∙ s.opened.slot_is)) in
    let x = copy-turn s one (ap (λ z. slice_get (children_of z) c.loop-index.index) (sym content) ∙ c.child-child.ensures.child) in
    let h = copy-here s (c.copy_below-made.ensures x.cut.leaves_left x.cut.lower_left x.x.0 x.under x.apart) in
    let kids = partly-kids s.name c.loop-index.index s.opened.content (omega arith) in
    (search rules, (is_used _ _ _ h.here h.off, (_, h.here, kids.0, omega (arith, kids.1))))

pub loop-index-preserved : goal.loop-index-preserved
loop-index-preserved g t c = λ leaves lower apart o. let one = c.requires.capacity in let s = c.loop-index.invariant leaves lower apart o in
    let content : c.node.result.now ≡ s.opened.content = some_same (sym c.node.ensures.value ∙ (node_kept s ∙ s.opened.slot_is)) in
    let x = copy-turn s one (ap (λ z. slice_get (children_of z) c.loop-index.index) (sym content) ∙ c.child-child.ensures.child) in
    let made = c.copy_below-made.ensures x.cut.leaves_left x.cut.lower_left x.x.0 x.under x.apart in let h = copy-here s made in
    let next = copying-next s x made (puts c.copy_below-made.new.self c.set_child.new.pool _ _ _ h.here (c.set_child.ensures _ h.here)) in
    subst (Copying g.row.N c.args.self.now c.set_child.new.pool leaves lower c.args.node c.copy_node-copy.result) (omega arith) next

pub returns : goal.returns
returns g t c = λ leaves lower first under apart. let one = c.requires.capacity in let o = under-open one under in let s = c.loop-index.invariant leaves lower apart o in
    let start = copying-start apart o c.copy_node-copy.ensures.node (c.copy_node-copy.ensures.table o.content o.slot_is) c.copy_node-copy.ensures.used in
    copying-last s one (omega (arith, c.child_count-index-end.ensures.value s.opened.content (node_kept start ∙ s.opened.slot_is), ap length s.opened.children_are, length-map s.opened.top (λ (e : g.row.K.Denot × ℕ). e.1)))
