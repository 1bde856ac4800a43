use Rattle.bforest_core.proofs.{Words.{rules, ◌+◌, arith, refl}, walks.Reading.not_so, walks.TopNode.{node_held, node_within}, walks.Leading.last-turns, walks.EndLeaves.{end-asks, end-below, end-low, end-on, last-ends}}
use Rattle.bforest_core.proofs.pool.NodePool.+last_leaf.Goals as goal

pub node-requires : goal.node-requires
node-requires g t c = (search rules, (search rules, node_within c.requires.capacity c.requires.under.1.1))

pub returns-then-not-is_inner : goal.returns-then-not-is_inner
returns-then-not-is_inner g t c = last-ends c.requires.capacity c.node.ensures.value (not_so c.if-not-is_inner.true c.is_inner.ensures.inner)

pub last_index-index-requires : goal.last_index-index-requires
last_index-index-requires g t c = (search rules, node_held c.requires.capacity c.requires.under.1.1)

pub child-last-requires : goal.child-last-requires
child-last-requires g t c = (search rules, end-asks c.requires.capacity c.node.ensures.value (c.is_inner.ensures.inner.0 c.if-not-is_inner.false) (last-turns c.requires.capacity c.last_index-index.ensures.last) _ c.requires.under)

pub last_leaf-requires : goal.last_leaf-requires
last_leaf-requires g t c κs within = let inner = c.is_inner.ensures.inner.0 c.if-not-is_inner.false in let turns = (last-turns c.requires.capacity c.last_index-index.ensures.last) in
    let low = end-low c.requires.capacity c.node.ensures.value inner turns _ c.requires.under in
    (omega (arith, low), (within.0, (within.1, ((λ a m. search rules), (search rules, (c.requires.capacity, end-below c.requires.capacity c.node.ensures.value inner turns _ c.requires.under c.child-last.ensures (c.args.depth + 1) refl))))))

pub returns : goal.returns
returns g t c = end-on c.requires.capacity c.node.ensures.value (c.is_inner.ensures.inner.0 c.if-not-is_inner.false) (last-turns c.requires.capacity c.last_index-index.ensures.last) c.child-last.ensures c.last_leaf.ensures
