use Rattle.bforest_core.proofs.Words.{rules, ◌≤◌, length, map, ap, arith, get_or_default, heads, sizes, need_above}
use Rattle.bforest_core.proofs.insertion.{LeafSpot.site, Nodes.full_is, Grow.need_some, Level.{next_asks, next_takes}}
use Rattle.bforest_core.proofs.path.Path.split_leaf.Goals as goal

pub halve_leaf-half-requires : goal.halve_leaf-half-requires
halve_leaf-half-requires g c = let w = c.requires.placed in let at = site w.2 (c.args.key, c.args.value) in
    let some = ap (λ z. need_above z.0 (map sizes w.0.above)) (at.full_gain (full_is at 0 (omega arith) c.args.pool.now c.requires.full)) in
    (search rules, (search rules, (omega (arith, w.3, some, need_some (length (heads at.before)) (map sizes w.0.above)), (c.requires.full, (w.0, w.1, w.2)))))

pub insert_above-requires : goal.insert_above-requires
insert_above-requires g c = let w = c.requires.placed in let half = c.halve_leaf-half.ensures in
    let low : c.halve_leaf-half.new.self.size ≤ 17 = omega (arith, c.requires.height, half.size) in
    (search rules, (search rules, (low, next_asks (half.halved w.0 w.1 w.2) _ half.size _ (get_or_default c.args.self.now.node 0 c.index-self-0.result 0 (omega arith)) w.3 (omega (arith, w.4)))))

pub returns : goal.returns
returns g c = record {
  inserted = λ tree place p. let half = c.halve_leaf-half.ensures in
      let above = next_takes (half.halved tree place p) _ half.size _
      (get_or_default c.args.self.now.node 0 c.index-self-0.result 0 (omega arith)) c.insert_above.ensures in
      record { taken = above.0; taken_is = above.1; raised = above.2 };
}
