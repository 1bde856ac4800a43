use Rattle.bforest_trees.proofs.unions.Gathering.{gathered-key, gathered-leaf, gathered-many}
use Rattle.bforest_trees.proofs.unions.Marks.{from-base, mark-added, to-base}
use Rattle.bforest_trees.proofs.source.UnionOfLeafSource.next_leaf.Goals as goal
use Rattle.bforest_trees.specs.Union.{united}
use Rattle.bforest_core.specs.Place.{leaf_content}
use Rattle.bforest_core.specs.Table.{with_front}
use Rattle.bforest_nodes.specs.Entries.{IsIncreasing}
use Rattle.std.proofs.Common.{ap, arith, drop, length, rules, slice_get, subst, sym, take, ◌∙◌}

pub resume-first-requires : goal.resume-first-requires
resume-first-requires g c = let f = c.requires.feeds.1 in (search rules, (search rules, (f.adds.union, mark-added f.adds c.args.self.now.first f.reads.0)))

pub resume-second-requires : goal.resume-second-requires
resume-second-requires g c = let f = c.requires.feeds.1 in (search rules, (search rules, (f.adds.union, mark-added f.adds c.args.self.now.second f.reads.1)))

pub next_union_leaf-leaf-requires : goal.next_union_leaf-leaf-requires
next_union_leaf-leaf-requires g c = let f = c.requires.feeds.1 in let r = c.resume-first.ensures in let q = c.resume-second.ensures in let cmp = g.C.Comparator.order c.args.self.now.comp.now in
    let from = from-base f.adds f.reads.0 r.left in let second_from = from-base f.adds f.reads.1 q.left in
    let same = ap length (λ i. united cmp (from i) (second_from i)) in
    (search rules, (search rules, (search rules, (f.adds.union.1.capacity, (r.reader, (q.reader, (subst (IsIncreasing cmp) (sym from) f.reads.2, (subst (IsIncreasing cmp) (sym second_from) f.reads.3, (c.requires.some, (c.requires.few, omega (arith, f.enough, same)))))))))))

pub leaf_crit_key-requires : goal.leaf_crit_key-requires
leaf_crit_key-requires g c = let f = c.requires.feeds.1 in let r = c.resume-first.ensures in let q = c.resume-second.ensures in let cmp = g.C.Comparator.order c.args.self.now.comp.now in
    let from = from-base f.adds f.reads.0 r.left in let second_from = from-base f.adds f.reads.1 q.left in let s = c.next_union_leaf-leaf.ensures.gathers in
    (search rules, (gathered-leaf s, omega (arith, c.requires.some, gathered-many s (omega (arith, f.enough, ap length (λ i. united cmp (from i) (second_from i)))))))

pub returns-clause-gives : goal.returns-clause-gives
returns-clause-gives g c = λ base f. let cmp = g.C.Comparator.order c.args.self.now.comp.now in
    let r = c.resume-first.ensures in let q = c.resume-second.ensures in let told = c.next_union_leaf-leaf.ensures in let s = told.gathers in
    let m = c.mark-self.ensures in let k = c.mark-self-2.ensures in
    let from = from-base f.adds f.reads.0 r.left in let second_from = from-base f.adds f.reads.1 q.left in
    let to = to-base f.adds f.reads.0 r.left m.mark m.left told.first.fewer (m.root ∙ told.first.root ∙ r.root) in
    let second_to = to-base f.adds f.reads.1 q.left k.mark k.left told.second.fewer (k.root ∙ told.second.root ∙ q.root) in
    let first = gathered-key s c.leaf_crit_key.ensures.key in record {
      value = first.0;
      first_is = (λ i. slice_get (united cmp ((sym from) i) ((sym second_from) i)) 0) ∙ first.1;
      reads = (to.0, second_to.0, subst (IsIncreasing cmp) (sym to.1) told.first.up, subst (IsIncreasing cmp) (sym second_to.1) told.second.up);
      rest_is = (λ i. united cmp (to.1 i) (second_to.1 i)) ∙ s.rest_is ∙ (λ i. drop c.args.count (united cmp (from i) (second_from i)));
    }

pub returns-clause-leaf : goal.returns-clause-leaf
returns-clause-leaf g c = λ base f. let t = c.args.pool.now in let added = c.add_node.ensures in let cmp = g.C.Comparator.order c.args.self.now.comp.now in
    let from = from-base f.adds f.reads.0 c.resume-first.ensures.left in let second_from = from-base f.adds f.reads.1 c.resume-second.ensures.left in record {
      front = added.node;
      table_is = added.table ∙ ap (λ z. with_front t t.chain z) (c.next_union_leaf-leaf.ensures.gathers.leaf_is ∙ (λ i. leaf_content (take c.args.count (united cmp (from i) (second_from i)))));
      used = added.used;
    }
