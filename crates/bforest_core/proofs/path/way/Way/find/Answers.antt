use Rattle.bforest_core.proofs.{Words.{rules, arith}, walks.Reading.not_so, walks.Searches.{search-asks, search-below, search-held}, walks.Ways.{came-ends, came-on, came-root}}
use Rattle.bforest_core.proofs.path.way.Way.find.Goals as goal

pub loop-key-init : goal.loop-key-init
loop-key-init g c = let r = c.requires in let b = c.root-way.ensures in
    came-root (g.met.C.Comparator.total c.args.comp.now) r.union r.root r.increasing b.code b.leaf b.parent b.height

pub node-requires : goal.node-requires
node-requires g c = (search rules, (search rules, search-held c.loop-key.invariant.search))

pub follow-index-requires : goal.follow-index-requires
follow-index-requires g c = (search rules, search-asks c.loop-key.invariant.search c.node.ensures.value (c.is_inner.ensures.inner.0 c.loop-key-test.true))

pub below-way-requires : goal.below-way-requires
below-way-requires g c = let f = c.follow-index.ensures in
    let low = search-below c.loop-key.invariant.search c.node.ensures.value (c.is_inner.ensures.inner.0 c.loop-key-test.true) f.index f.child in
    record { code = low.0; height = low.1; index = low.2 }

pub loop-key-smaller : goal.loop-key-smaller
loop-key-smaller g c = let f = c.follow-index.ensures in
    omega (arith, search-below c.loop-key.invariant.search c.node.ensures.value (c.is_inner.ensures.inner.0 c.loop-key-test.true) f.index f.child, c.below-way.ensures.height)

pub loop-key-preserved : goal.loop-key-preserved
loop-key-preserved g c = let f = c.follow-index.ensures in let b = c.below-way.ensures in
    came-on c.loop-key.invariant c.node.ensures.value (c.is_inner.ensures.inner.0 c.loop-key-test.true) f.index f.child b.code b.leaf b.parent b.height

pub returns : goal.returns
returns g c = record { ends = came-ends c.loop-key.invariant c.node.ensures.value c.requires.union c.requires.root (not_so c.loop-key-test.false c.is_inner.ensures.inner) }
