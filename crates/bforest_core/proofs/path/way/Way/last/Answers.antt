use Rattle.bforest_core.proofs.{Words.{rules, arith, refl}, walks.Reading.not_so, walks.CodesDown.{down-asks, down-low}, walks.Leading.last-turns, walks.TopNode.{node_held, node_within}}
use Rattle.bforest_core.proofs.walks.Ways.{leading-last, leading-on, leading-root}
use Rattle.bforest_core.proofs.path.way.Way.last.Goals as goal

pub loop-index-init : goal.loop-index-init
loop-index-init g c = let b = c.root-way.ensures in leading-root c.requires.union c.requires.root refl b.code b.leaf b.parent b.height

pub node-requires : goal.node-requires
node-requires g c = (search rules, (search rules, node_within c.requires.union.1.capacity c.loop-index.invariant.down.under.2.on))

pub last_index-index-requires : goal.last_index-index-requires
last_index-index-requires g c = (search rules, node_held c.requires.union.1.capacity c.loop-index.invariant.down.under.2.on)

pub child-last-requires : goal.child-last-requires
child-last-requires g c = let turns = last-turns c.requires.union.1.capacity c.last_index-index.ensures.last in
    (search rules, down-asks c.loop-index.invariant.down c.node.ensures.value (c.is_inner.ensures.inner.0 c.loop-index-test.true) turns)

pub below-way-requires : goal.below-way-requires
below-way-requires g c = let turns = last-turns c.requires.union.1.capacity c.last_index-index.ensures.last in
    let low = down-low c.loop-index.invariant.down c.node.ensures.value (c.is_inner.ensures.inner.0 c.loop-index-test.true) turns in
    record { code = low.0; height = low.1; index = omega (arith, low.2) }

pub loop-index-smaller : goal.loop-index-smaller
loop-index-smaller g c = let turns = last-turns c.requires.union.1.capacity c.last_index-index.ensures.last in
    omega (arith, c.below-way.ensures.height, (down-low c.loop-index.invariant.down c.node.ensures.value (c.is_inner.ensures.inner.0 c.loop-index-test.true) turns).1)

pub loop-index-preserved : goal.loop-index-preserved
loop-index-preserved g c = let b = c.below-way.ensures in let turns = last-turns c.requires.union.1.capacity c.last_index-index.ensures.last in
    leading-on c.requires.union c.requires.root c.loop-index.invariant c.node.ensures.value (c.is_inner.ensures.inner.0 c.loop-index-test.true) turns c.child-last.ensures b.code b.leaf b.parent b.height

pub returns : goal.returns
returns g c = record { last = leading-last c.requires.union c.requires.root c.node.ensures.value (not_so c.loop-index-test.false c.is_inner.ensures.inner) c.loop-index.invariant }
