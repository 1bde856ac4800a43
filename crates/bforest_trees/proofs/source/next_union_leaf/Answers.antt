use Rattle.bforest_trees.proofs.unions.Gathering.{gathered-leaf, gathered-many, gathers-first, gathers-more, gathers-next, goes-then, least-some, steps}
use Rattle.bforest_trees.proofs.source.next_union_leaf.Goals as goal
use Rattle.bforest_trees.specs.Layout.{left_of}
use Rattle.bforest_trees.specs.Merge.{Gathers}
use Rattle.bforest_trees.specs.Union.{united}
use Rattle.std.proofs.Common.{arith, subst, ◌<◌, rules}

pub unwrap-key-requires : goal.unwrap-key-requires
unwrap-key-requires g c = least-some c.args.pool.now (g.C.Comparator.order c.args.comp.now) _ _ _ c.take_least.ensures.least (omega (arith, c.requires.some, c.requires.enough))

pub loop-index-init : goal.loop-index-init
loop-index-init g c = let cmp = g.C.Comparator.order c.args.comp.now in let t = c.take_least.ensures in let l = t.least.some c.unwrap-key.result c.unwrap-key.ensures in
    let s = steps c.args.pool.now cmp (g.met.C.Comparator.total c.args.comp.now) c.requires.increasing c.requires.other_increasing l.1 l.2 t.root t.second_root in (
      s.first_on,
      s.second_on,
      gathers-first s.unites c.new_leaf-leaf.ensures.node,
      omega (arith, c.requires.some),
    )

pub unwrap-key-requires-in-loop-index : goal.unwrap-key-requires-in-loop-index
unwrap-key-requires-in-loop-index g c = least-some c.args.pool.now (g.C.Comparator.order c.args.comp.now) _ _ _ c.take_least-in-loop-index.ensures.least
    (gathers-more c.loop-index.invariant.2 (omega (arith, c.loop-index-test.true, c.requires.enough)))

pub push_entry-requires : goal.push_entry-requires
push_entry-requires g c = let s = c.loop-index.invariant in let low : c.loop-index.index < c.args.count = omega (arith, c.loop-index-test.true) in
    (search rules, (gathered-leaf s.2, omega (arith, gathered-many s.2 (omega (arith, low, c.requires.enough)), low, c.requires.few)))

pub loop-index-preserved : goal.loop-index-preserved
loop-index-preserved g c = let i = c.loop-index.invariant in
    let cmp = g.C.Comparator.order c.args.comp.now in let t = c.take_least-in-loop-index.ensures in let e = c.unwrap-key-in-loop-index.result in let l = t.least.some e c.unwrap-key-in-loop-index.ensures in
    let s = steps c.args.pool.now cmp (g.met.C.Comparator.total c.args.comp.now) i.0.up i.1.up l.1 l.2 t.root t.second_root in
    let low : c.loop-index.index < c.args.count = omega (arith, c.loop-index-test.true) in (
      goes-then c.args.pool.now cmp (g.met.C.Comparator.total c.args.comp.now) i.0 s.first_on,
      goes-then c.args.pool.now cmp (g.met.C.Comparator.total c.args.comp.now) i.1 s.second_on,
      subst (λ z. Gathers (united cmp (left_of c.args.pool.now c.args.first.now) (left_of c.args.pool.now c.args.second.now))
          (united cmp (left_of c.args.pool.now c.take_least-in-loop-index.new.first) (left_of c.args.pool.now c.take_least-in-loop-index.new.second)) c.push_entry.new.self z) (omega arith)
          (gathers-next i.2 s.unites c.push_entry.ensures.node),
      omega (arith, low),
    )

pub returns-clause-gathers : goal.returns-clause-gathers
returns-clause-gathers g c = let cmp = g.C.Comparator.order c.args.comp.now in let i = c.loop-index.invariant in
    subst (λ z. Gathers (united cmp (left_of c.args.pool.now c.args.first.now) (left_of c.args.pool.now c.args.second.now))
    (united cmp (left_of c.args.pool.now c.loop-index.first) (left_of c.args.pool.now c.loop-index.second)) c.loop-index.leaf z) (omega (arith, i.3, c.loop-index-test.false)) i.2
