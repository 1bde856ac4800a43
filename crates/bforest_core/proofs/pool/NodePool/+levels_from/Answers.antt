use Rattle.bforest_core.proofs.{Words.{rules, children_of, length, ap, arith, sym, ◌∙◌}, walks.Leading.{child_asks, child_under}, table.Stored.some_same}
use Rattle.bforest_core.proofs.{walks.Reading.not_so, walks.TopNode.{inner_under, node_within, leaf_under}}
use Rattle.bforest_core.proofs.pool.NodePool.+levels_from.Goals as goal

pub node-requires : goal.node-requires
node-requires g t c = (search rules, (search rules, node_within c.requires.capacity c.requires.under.1))

pub node-requires-then-is_inner : goal.node-requires-then-is_inner
node-requires-then-is_inner g t c = (search rules, (search rules, node_within c.requires.capacity c.requires.under.1))

pub child-requires : goal.child-requires
child-requires g t c = let s = inner_under c.requires.capacity c.requires.under.1 c.node.ensures.value (c.is_inner.ensures.inner.0 c.if-is_inner.true) in
    (search rules, child_asks s c.node-then-is_inner.ensures.value 0 (omega arith))

pub levels_from-requires : goal.levels_from-requires
levels_from-requires g t c κs within = let w = c.requires.under in
    let s = inner_under c.requires.capacity w.1 c.node.ensures.value (c.is_inner.ensures.inner.0 c.if-is_inner.true) in
    let d = child_under s 0 {child = c.child.result} (λ keys children found. let same = ap children_of (some_same (sym c.node-then-is_inner.ensures.value ∙ found)) in cc (same)) in
    let low = ap length d.rows_are in
    (omega (arith, w.2, s.count_is), (within.0, (within.1, ((λ a m. search rules), (search rules, (c.requires.capacity, (w.0, d.on, omega (arith, w.2, s.count_is, low))))))))

pub overflow_add-result : goal.overflow_add-result
overflow_add-result g t c = let w = c.requires.under in
    let s = inner_under c.requires.capacity w.1 c.node.ensures.value (c.is_inner.ensures.inner.0 c.if-is_inner.true) in
    let d = child_under s 0 {child = c.child.result} (λ keys children found. let same = ap children_of (some_same (sym c.node-then-is_inner.ensures.value ∙ found)) in cc (same)) in
    omega (arith, c.levels_from.ensures w.0 d.on, s.count_is, w.2, ap length d.rows_are)

pub returns-then-is_inner : goal.returns-then-is_inner
returns-then-is_inner g t c = λ leaves n. let s = inner_under c.requires.capacity n c.node.ensures.value (c.is_inner.ensures.inner.0 c.if-is_inner.true) in
    let d = child_under s 0 {child = c.child.result} (λ keys children found. let same = ap children_of (some_same (sym c.node-then-is_inner.ensures.value ∙ found)) in cc (same)) in
    omega (arith, c.levels_from.ensures leaves d.on, s.count_is, ap length d.rows_are)

pub returns-else-is_inner : goal.returns-else-is_inner
returns-else-is_inner g t c = λ leaves n.
    omega (arith, ap length (leaf_under c.requires.capacity n c.node.ensures.value (not_so c.if-is_inner.false c.is_inner.ensures.inner)).lower_is)
