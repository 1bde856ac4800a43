use Rattle.bforest_trees.proofs.unions.Gathering.{gathered-key, gathered-leaf, gathered-many}
use Rattle.bforest_trees.proofs.unions.Marks.{from-base, mark-added, to-base}
use Rattle.bforest_trees.proofs.source.OneTreeLeafSource.next_leaf.Goals as goal
use Rattle.bforest_trees.specs.Layout.{left_of}
use Rattle.bforest_core.specs.Place.{leaf_content}
use Rattle.bforest_core.specs.Table.{with_front}
use Rattle.std.proofs.Common.{ap, arith, drop, length, rules, slice_get, sym, take, ◌∙◌}
use Rattle.std.proofs.lemmas.List.{length-drop}

pub resume-reader-requires : goal.resume-reader-requires
resume-reader-requires g c = let f = c.requires.feeds.1 in (search rules, (search rules, (f.adds.union, mark-added f.adds c.args.self.now.mark f.reads)))

pub next_tree_leaf-leaf-requires : goal.next_tree_leaf-leaf-requires
next_tree_leaf-leaf-requires g c = let f = c.requires.feeds.1 in let r = c.resume-reader.ensures in
    (search rules, (search rules, (search rules, (f.adds.union.1.capacity, (r.reader, (c.requires.some, (c.requires.few, omega (arith, f.enough, ap length (from-base f.adds f.reads r.left)))))))))

pub leaf_crit_key-requires : goal.leaf_crit_key-requires
leaf_crit_key-requires g c = let f = c.requires.feeds.1 in let r = c.resume-reader.ensures in let s = c.next_tree_leaf-leaf.ensures.gathers in
    (search rules, (gathered-leaf s, omega (arith, c.requires.some, gathered-many s (omega (arith, f.enough, ap length (from-base f.adds f.reads r.left))))))

pub returns-clause-gives : goal.returns-clause-gives
returns-clause-gives g c = λ base f.
    let r = c.resume-reader.ensures in let s = c.next_tree_leaf-leaf.ensures.gathers in let m = c.mark-self.ensures in
    let from = from-base f.adds f.reads r.left in
    let to = to-base f.adds f.reads r.left m.mark m.left (omega (arith, ap length s.rest_is, length-drop c.args.count (left_of c.args.pool.now c.resume-reader.result))) (m.root ∙ c.next_tree_leaf-leaf.ensures.root ∙ r.root) in
    let first = gathered-key s c.leaf_crit_key.ensures.key in record {
      value = first.0;
      first_is = ap (λ z. slice_get z 0) (sym from) ∙ first.1;
      reads = to.0;
      rest_is = to.1 ∙ s.rest_is ∙ ap (drop c.args.count) from;
    }

pub returns-clause-leaf : goal.returns-clause-leaf
returns-clause-leaf g c = λ base f. let t = c.args.pool.now in let added = c.add_node.ensures in record {
  front = added.node;
  table_is = added.table ∙ ap (λ z. with_front t t.chain z) (c.next_tree_leaf-leaf.ensures.gathers.leaf_is ∙ ap (λ z. leaf_content (take c.args.count z)) (from-base f.adds f.reads c.resume-reader.ensures.left));
  used = added.used;
}
