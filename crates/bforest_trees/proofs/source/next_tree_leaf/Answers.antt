use Rattle.bforest_trees.proofs.unions.Gathering.{gathered-leaf, gathered-many, gathers-first, gathers-more, gathers-next, some-yields, yields}
use Rattle.bforest_trees.proofs.source.next_tree_leaf.Goals as goal
use Rattle.bforest_trees.specs.Layout.{left_of}
use Rattle.bforest_trees.specs.Merge.{Gathers}
use Rattle.std.proofs.Common.{arith, subst, ◌<◌, ◌∙◌, rules}

pub unwrap-key-requires : goal.unwrap-key-requires
unwrap-key-requires g c = some-yields (left_of {n = g.row.N} c.args.pool.now) c.args.reader.now c.take_next.new.self c.take_next.result c.take_next.ensures.steps (omega (arith, c.requires.some, c.requires.enough))

pub loop-index-init : goal.loop-index-init
loop-index-init g c = (
  c.take_next.ensures.reader,
  gathers-first (yields (left_of {n = g.row.N} c.args.pool.now) c.args.reader.now c.take_next.new.self c.take_next.ensures.steps c.unwrap-key.ensures) c.new_leaf-leaf.ensures.node,
  c.take_next.ensures.root,
  omega (arith, c.requires.some),
)

pub unwrap-key-requires-in-loop-index : goal.unwrap-key-requires-in-loop-index
unwrap-key-requires-in-loop-index g c = some-yields (left_of {n = g.row.N} c.args.pool.now) c.loop-index.reader c.take_next-in-loop-index.new.self c.take_next-in-loop-index.result c.take_next-in-loop-index.ensures.steps (gathers-more c.loop-index.invariant.1 (omega (arith, c.loop-index-test.true, c.requires.enough)))

pub push_entry-requires : goal.push_entry-requires
push_entry-requires g c = let s = c.loop-index.invariant in let low : c.loop-index.index < c.args.count = omega (arith, c.loop-index-test.true) in
    (search rules, (gathered-leaf s.1, omega (arith, gathered-many s.1 (omega (arith, low, c.requires.enough)), low, c.requires.few)))

pub loop-index-preserved : goal.loop-index-preserved
loop-index-preserved g c = let s = c.loop-index.invariant in
    let low : c.loop-index.index < c.args.count = omega (arith, c.loop-index-test.true) in (
      c.take_next-in-loop-index.ensures.reader,
      subst (λ z. Gathers (left_of c.args.pool.now c.args.reader.now) (left_of c.args.pool.now c.take_next-in-loop-index.new.self) c.push_entry.new.self z) (omega arith)
          (gathers-next s.1 (yields (left_of {n = g.row.N} c.args.pool.now) c.loop-index.reader c.take_next-in-loop-index.new.self c.take_next-in-loop-index.ensures.steps c.unwrap-key-in-loop-index.ensures) c.push_entry.ensures.node),
      c.take_next-in-loop-index.ensures.root ∙ s.2,
      omega (arith, low),
    )

pub returns-clause-gathers : goal.returns-clause-gathers
returns-clause-gathers g c = let s = c.loop-index.invariant in subst (λ z. Gathers (left_of c.args.pool.now c.args.reader.now) (left_of c.args.pool.now c.loop-index.reader) c.loop-index.leaf z) (omega (arith, s.3, c.loop-index-test.false)) s.1
