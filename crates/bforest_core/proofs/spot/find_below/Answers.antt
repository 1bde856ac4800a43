use Rattle.bforest_core.proofs.{Words.{rules, arith}, walks.Reading.not_so, walks.Searches.{begins-below, begins-here, search-asks, search-below, search-ends, search-held, search-on}}
use Rattle.bforest_core.proofs.spot.find_below.Goals as goal

pub loop-key-init : goal.loop-key-init
loop-key-init g c = (
  λ leaves rows at. record { total = g.met.C.Comparator.total c.args.comp.now; capacity = c.requires.capacity; at = at },
  begins-here c.args.spot,
)

pub node-requires : goal.node-requires
node-requires g c = let w = c.requires.under in (search rules, (search rules, search-held (c.loop-key.invariant.0 w.0 w.1 w.2)))

pub follow-index-requires : goal.follow-index-requires
follow-index-requires g c = let w = c.requires.under in
    (search rules, search-asks (c.loop-key.invariant.0 w.0 w.1 w.2) c.node.ensures.value (c.is_inner.ensures.inner.0 c.loop-key-test.true))

pub below-here-requires : goal.below-here-requires
below-here-requires g c = let w = c.requires.under in let f = c.follow-index.ensures in
    let low = search-below (c.loop-key.invariant.0 w.0 w.1 w.2) c.node.ensures.value (c.is_inner.ensures.inner.0 c.loop-key-test.true) f.index f.child in
    record { code = low.0; height = low.1; index = low.2 }

pub loop-key-smaller : goal.loop-key-smaller
loop-key-smaller g c = let w = c.requires.under in let f = c.follow-index.ensures in
    omega (
      arith,
      search-below (c.loop-key.invariant.0 w.0 w.1 w.2) c.node.ensures.value (c.is_inner.ensures.inner.0 c.loop-key-test.true) f.index f.child,
    )

pub loop-key-preserved : goal.loop-key-preserved
loop-key-preserved g c = let w = c.requires.under in let f = c.follow-index.ensures in let inner = c.is_inner.ensures.inner.0 c.loop-key-test.true in
    let low = search-below (c.loop-key.invariant.0 w.0 w.1 w.2) c.node.ensures.value inner f.index f.child in (
      λ leaves rows at. search-on (c.loop-key.invariant.0 leaves rows at) c.node.ensures.value inner f.index f.child (search rules),
      begins-below c.args.spot c.loop-key.here c.loop-key.invariant.1 c.below-here.result c.below-here.ensures.code c.below-here.ensures.height low.2,
    )

pub returns : goal.returns
returns g c = record {
  found = λ leaves rows at. search-ends (c.loop-key.invariant.0 leaves rows at) c.node.ensures.value (not_so c.loop-key-test.false c.is_inner.ensures.inner);
  begins = c.loop-key.invariant.1;
}
