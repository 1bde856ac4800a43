use Rattle.bforest_core.proofs.{Words.{rules, ◌+◌, arith}, walks.Reading.not_so, walks.Searches.{asks, deeper-low, down, ends-here, within}}
use Rattle.bforest_core.proofs.pool.NodePool.+leaf_below.Goals as goal

pub node-requires : goal.node-requires
node-requires g t c = (search rules, (search rules, within (g.met.C.Comparator.total c.args.comp.now) c.requires.capacity c.requires.through.1))

pub returns-then-not-is_inner : goal.returns-then-not-is_inner
returns-then-not-is_inner g t c = λ root on.
    (_, ends-here (g.met.C.Comparator.total c.args.comp.now) c.requires.capacity on c.node.ensures.value (not_so c.if-not-is_inner.true c.is_inner.ensures.inner))

pub follow-child-requires : goal.follow-child-requires
follow-child-requires g t c = (search rules, asks (g.met.C.Comparator.total c.args.comp.now) c.requires.capacity c.requires.through.1 c.node.ensures.value (c.is_inner.ensures.inner.0 c.if-not-is_inner.false))

pub leaf_below-requires : goal.leaf_below-requires
leaf_below-requires g t c κs within = let o = g.met.C.Comparator.total c.args.comp.now in let inner = c.is_inner.ensures.inner.0 c.if-not-is_inner.false in
    let on = c.requires.through.1 in let f = c.follow-child.ensures in let low = deeper-low o c.requires.capacity on c.node.ensures.value inner in
    let next = down o c.requires.capacity on c.node.ensures.value inner f.index f.child (c.args.depth + 1) (omega arith) in
    (omega (arith, low), (within.0, (within.1.0, ((λ a m. search rules), (within.1.1, (search rules, (c.requires.capacity, (_, next.on))))))))

pub returns : goal.returns
returns g t c = λ root on. c.leaf_below.ensures root (down (g.met.C.Comparator.total c.args.comp.now) c.requires.capacity on c.node.ensures.value
    (c.is_inner.ensures.inner.0 c.if-not-is_inner.false) c.follow-child.ensures.index c.follow-child.ensures.child (c.args.depth + 1) (omega arith)).on
