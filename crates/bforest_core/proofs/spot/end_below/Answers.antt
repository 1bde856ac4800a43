use Rattle.bforest_core.proofs.{Words.{arith, rules}, walks.CodesDown.{down-asks, down-low, down-on, near-here}}
use Rattle.bforest_core.proofs.{walks.Leading.near-turns, walks.Reading.not_so, walks.TopNode.{node_held, node_within}}
use Rattle.bforest_core.proofs.spot.end_below.Goals as goal

pub loop-index-init : goal.loop-index-init
loop-index-init g c = record { capacity = c.requires.capacity; under = c.requires.under; ends = λ end leaf on. on }

pub node-requires : goal.node-requires
node-requires g c = (search rules, (search rules, node_within c.requires.capacity c.loop-index.invariant.under.2.on))

pub entered_at-index-requires : goal.entered_at-index-requires
entered_at-index-requires g c = (search rules, node_held c.requires.capacity c.loop-index.invariant.under.2.on)

pub below-here-requires : goal.below-here-requires
below-here-requires g c = let turns = near-turns c.args.on c.requires.capacity c.node.ensures.value c.entered_at-index.ensures.at in
    let low = down-low c.loop-index.invariant c.node.ensures.value (c.is_inner.ensures.inner.0 c.loop-index-test.true) turns in
    record { code = low.0; height = low.1; index = low.2 }

pub child-lower-requires : goal.child-lower-requires
child-lower-requires g c = let turns = near-turns c.args.on c.requires.capacity c.node.ensures.value c.entered_at-index.ensures.at in
    (search rules, down-asks c.loop-index.invariant c.node.ensures.value (c.is_inner.ensures.inner.0 c.loop-index-test.true) turns)

pub loop-index-smaller : goal.loop-index-smaller
loop-index-smaller g c = let turns = near-turns c.args.on c.requires.capacity c.node.ensures.value c.entered_at-index.ensures.at in
    omega (
      arith,
      c.below-here.ensures.height,
      (down-low c.loop-index.invariant c.node.ensures.value (c.is_inner.ensures.inner.0 c.loop-index-test.true) turns).1,
    )

pub loop-index-preserved : goal.loop-index-preserved
loop-index-preserved g c = let turns = near-turns c.args.on c.requires.capacity c.node.ensures.value c.entered_at-index.ensures.at in
    down-on c.loop-index.invariant c.node.ensures.value (c.is_inner.ensures.inner.0 c.loop-index-test.true) turns c.child-lower.ensures (search rules)

pub returns : goal.returns
returns g c = record {
  end = c.loop-index.invariant.ends c.loop-index.here c.loop-index.lower
      (near-here c.requires.capacity c.node.ensures.value (not_so c.loop-index-test.false c.is_inner.ensures.inner) c.loop-index.here c.args.on);
}
