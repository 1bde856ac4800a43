use Rattle.bforest_core.proofs.{Words.{rules, ◌∷◌, ◌+◌, sym, ◌∙◌, arith}, walks.Reading.not_so, walks.Searches.{asks, deeper-low, down, leaf-asks, narrowed}}
use Rattle.bforest_core.proofs.walks.Searches.{step-leaf, within}
use Rattle.bforest_core.proofs.pool.NodePool.+value_below.Goals as goal

pub node-requires : goal.node-requires
node-requires g t c = (search rules, (search rules, within (g.met.C.Comparator.total c.args.comp.now) c.requires.capacity c.requires.through.1))

pub look_up-requires : goal.look_up-requires
look_up-requires g t c = (
  search rules,
  (
    c.requires.capacity,
    leaf-asks (g.met.C.Comparator.total c.args.comp.now) c.requires.capacity c.requires.through.1
        c.node.ensures.value (not_so c.if-not-is_inner.true c.is_inner.ensures.inner),
  ),
)

pub returns-then-not-is_inner : goal.returns-then-not-is_inner
returns-then-not-is_inner g t c = λ leaves on. let o = g.met.C.Comparator.total c.args.comp.now in
    let other = not_so c.if-not-is_inner.true c.is_inner.ensures.inner in let s = step-leaf o c.requires.capacity on c.node.ensures.value other in
    c.look_up.ensures.value (s.e ∷ s.es) s.slot_is ∙ sym (narrowed o c.requires.capacity on c.node.ensures.value other).value_is

pub follow-child-requires : goal.follow-child-requires
follow-child-requires g t c = (search rules, asks (g.met.C.Comparator.total c.args.comp.now) c.requires.capacity c.requires.through.1 c.node.ensures.value (c.is_inner.ensures.inner.0 c.if-not-is_inner.false))

pub value_below-requires : goal.value_below-requires
value_below-requires g t c κs within = let o = g.met.C.Comparator.total c.args.comp.now in let inner = c.is_inner.ensures.inner.0 c.if-not-is_inner.false in
    let on = c.requires.through.1 in let f = c.follow-child.ensures in let low = deeper-low o c.requires.capacity on c.node.ensures.value inner in
    let next = down o c.requires.capacity on c.node.ensures.value inner f.index f.child (c.args.depth + 1) (omega arith) in
    (omega (arith, low), (within.0, (within.1.0, ((λ a m. search rules), (within.1.1, (search rules, (c.requires.capacity, (_, next.on))))))))

pub returns : goal.returns
returns g t c = λ leaves on. c.value_below.ensures leaves (down (g.met.C.Comparator.total c.args.comp.now) c.requires.capacity on c.node.ensures.value
    (c.is_inner.ensures.inner.0 c.if-not-is_inner.false) c.follow-child.ensures.index c.follow-child.ensures.child (c.args.depth + 1) (omega arith)).on
