use Rattle.bforest_core.proofs.walks.Searches.{came-first, one-child, search-along, search-asks, search-at, search-below, search-ends, search-held, search-on}
use Rattle.bforest_core.proofs.{Words.{arith, rules, sym, ◌∙◌}, walks.Reading.not_so}
use Rattle.bforest_core.proofs.spot.Spot.find_both.Goals as goal

pub loop-from-init : goal.loop-from-init
loop-from-init g c = let o = g.met.C.Comparator.total c.args.comp.now in let r = c.requires in let b = c.root-here.ensures in
    (came-first o r.union r.root r.increasing b.code b.height, λ ordered. came-first o r.union r.root r.increasing b.code b.height)

pub node-requires : goal.node-requires
node-requires g c = (search rules, (search rules, search-held c.loop-from.invariant.0))

pub follow-index-requires : goal.follow-index-requires
follow-index-requires g c = (search rules, search-asks c.loop-from.invariant.0 c.node.ensures.value (c.is_inner.ensures.inner.0 c.loop-from-test.true))

pub below-next-requires : goal.below-next-requires
below-next-requires g c = let f = c.follow-index.ensures in
    let low = search-below c.loop-from.invariant.0 c.node.ensures.value (c.is_inner.ensures.inner.0 c.loop-from-test.true) f.index f.child in
    record { code = low.0; height = low.1; index = low.2 }

pub goes_along-requires : goal.goes_along-requires
goes_along-requires g c = let f = c.follow-index.ensures in
    (search rules, search-along c.loop-from.invariant.0 c.node.ensures.value (c.is_inner.ensures.inner.0 c.loop-from-test.true) f.index f.child)

pub find_below-first-requires : goal.find_below-first-requires
find_below-first-requires g c = let f = c.follow-index.ensures in
    let d = search-on c.loop-from.invariant.0 c.node.ensures.value (c.is_inner.ensures.inner.0 c.loop-from-test.true) f.index f.child
    {next = c.below-next.result} (search rules) in
    (search rules, (d.capacity, (_, _, d.at)))

pub follow-other-requires : goal.follow-other-requires
follow-other-requires g c = (search rules, search-asks c.loop-from.invariant.0 c.node.ensures.value (c.is_inner.ensures.inner.0 c.loop-from-test.true))

pub below-requires : goal.below-requires
below-requires g c = let inner = c.is_inner.ensures.inner.0 c.loop-from-test.true in let f = c.follow-other.ensures in
    let a = search-asks c.loop-from.invariant.0 c.node.ensures.value inner in
    let ordered = c.goes_along.ensures.ordered c.if-not-goes_along.true _ _ _ a.2 (c.follow-index.ensures.index _ _ a.2) in
    let low = search-below (c.loop-from.invariant.1 ordered) c.node.ensures.value inner f.index f.child in
    record { code = low.0; height = low.1; index = low.2 }

pub find_below-last-requires : goal.find_below-last-requires
find_below-last-requires g c = let inner = c.is_inner.ensures.inner.0 c.loop-from-test.true in let f = c.follow-other.ensures in
    let a = search-asks c.loop-from.invariant.0 c.node.ensures.value inner in
    let ordered = c.goes_along.ensures.ordered c.if-not-goes_along.true _ _ _ a.2 (c.follow-index.ensures.index _ _ a.2) in
    let d = search-on (c.loop-from.invariant.1 ordered) c.node.ensures.value inner f.index f.child {next = c.below.result} (search rules) in
    (search rules, (d.capacity, (_, _, d.at)))

pub returns-then-not-goes_along : goal.returns-then-not-goes_along
returns-then-not-goes_along g c = let inner = c.is_inner.ensures.inner.0 c.loop-from-test.true in
    let f = c.follow-index.ensures in let o = c.follow-other.ensures in
    let a = search-asks c.loop-from.invariant.0 c.node.ensures.value inner in
    let ordered = c.goes_along.ensures.ordered c.if-not-goes_along.true _ _ _ a.2 (f.index _ _ a.2) in
    let d = search-on c.loop-from.invariant.0 c.node.ensures.value inner f.index f.child {next = c.below-next.result} (search rules) in
    let u = search-on (c.loop-from.invariant.1 ordered) c.node.ensures.value inner o.index o.child {next = c.below.result} (search rules) in
    let e = c.find_below-first.ensures.found _ _ d.at in let h = c.find_below-last.ensures.found _ _ u.at in
    record {
      first = search-at c.requires.root e;
      other = (
        search-at c.requires.root h,
        λ same. c.goes_along.ensures.apart c.if-not-goes_along.true _ _ a.2 (one-child c.below-next.result c.find_below-first.result.0
            c.find_below-first.ensures.begins c.below.result c.find_below-last.result.0 c.find_below-last.ensures.begins _ c.below-next.ensures.code
            c.below.ensures.code (c.below-next.ensures.height ∙ sym c.below.ensures.height) (e.way.height_is ∙ sym h.way.height_is) same
            ∙ o.index _ _ a.2),
        ordered,
      );
      same = search rules;
    }

pub loop-from-smaller : goal.loop-from-smaller
loop-from-smaller g c = let f = c.follow-index.ensures in
    omega (arith, search-below c.loop-from.invariant.0 c.node.ensures.value (c.is_inner.ensures.inner.0 c.loop-from-test.true) f.index f.child)

pub loop-from-preserved : goal.loop-from-preserved
loop-from-preserved g c = let f = c.follow-index.ensures in let inner = c.is_inner.ensures.inner.0 c.loop-from-test.true in (
  search-on c.loop-from.invariant.0 c.node.ensures.value inner f.index f.child (search rules),
  λ ordered. search-on (c.loop-from.invariant.1 ordered) c.node.ensures.value inner
      (λ keys children found. c.goes_along.ensures.along c.if-not-goes_along.false _ _ _ found (f.index _ _ found) ordered) f.child (search rules),
)

pub returns : goal.returns
returns g c = let i = c.loop-from.invariant in let other = not_so c.loop-from-test.false c.is_inner.ensures.inner in record {
  first = search-at c.requires.root (search-ends i.0 c.node.ensures.value other);
  other = tt;
  same = λ _ ordered. search-at c.requires.root (search-ends (i.1 ordered) c.node.ensures.value other);
}
