use Rattle.bforest_core.proofs.{Words.{rules, arith, refl}, walks.Reading.not_so, walks.CodesDown.{down-asks, down-low}, walks.Leading.first-turns, walks.TopNode.node_within}
use Rattle.bforest_core.proofs.walks.Ways.{leading-first, leading-on, leading-root}
use Rattle.bforest_core.proofs.path.way.Way.first.Goals as goal

pub loop-first-init : goal.loop-first-init
loop-first-init g c = let b = c.root-way.ensures in leading-root c.requires.union c.requires.root refl b.code b.leaf b.parent b.height

pub node-requires : goal.node-requires
node-requires g c = (search rules, (search rules, node_within c.requires.union.1.capacity c.loop-first.invariant.down.under.2.on))

pub child-first-requires : goal.child-first-requires
child-first-requires g c = (search rules, down-asks c.loop-first.invariant.down c.node.ensures.value (c.is_inner.ensures.inner.0 c.loop-first-test.true) first-turns)

pub below-way-requires : goal.below-way-requires
below-way-requires g c = let low = down-low c.loop-first.invariant.down c.node.ensures.value (c.is_inner.ensures.inner.0 c.loop-first-test.true) first-turns in
    record { code = low.0; height = low.1; index = low.2 }

pub loop-first-smaller : goal.loop-first-smaller
loop-first-smaller g c =
    omega (arith, c.below-way.ensures.height, (down-low c.loop-first.invariant.down c.node.ensures.value (c.is_inner.ensures.inner.0 c.loop-first-test.true) first-turns).1)

pub loop-first-preserved : goal.loop-first-preserved
loop-first-preserved g c = let b = c.below-way.ensures in
    leading-on c.requires.union c.requires.root c.loop-first.invariant c.node.ensures.value (c.is_inner.ensures.inner.0 c.loop-first-test.true) first-turns c.child-first.ensures b.code b.leaf b.parent b.height

pub returns : goal.returns
returns g c = record { first = leading-first c.requires.union c.requires.root c.node.ensures.value (not_so c.loop-first-test.false c.is_inner.ensures.inner) c.loop-first.invariant }
