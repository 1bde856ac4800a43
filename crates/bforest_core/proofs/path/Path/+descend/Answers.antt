use Rattle.bforest_core.proofs.Words.{rules, length, ap, sym, ◌∙◌, length-set, arith}
use Rattle.bforest_core.proofs.{walks.Descent.{leaf_step, inner_step, follow_asks, below, reached, passed}, walks.TopNode.{leaf_at, inner_at}}
use Rattle.bforest_core.proofs.path.Path.+descend.Goals as goal

pub returns-then-level-eq0-clause-descended : goal.returns-then-level-eq0-clause-descended
returns-then-level-eq0-clause-descended g t c = λ leaves on level_is. let o = g.met.C.Comparator.total c.args.comp.now in
    let s = leaf_step o c.requires.capacity on (leaf_at c.requires.capacity on.on (sym level_is ∙ c.if-level-eq0.true)) in
    reached o c.requires.capacity s _ _ _ _ (omega arith) (omega arith) c.set_level.ensures.node c.set_level.ensures.entry

pub follow-index-requires : goal.follow-index-requires
follow-index-requires g t c = let w = c.requires.under in let o = g.met.C.Comparator.total c.args.comp.now in
    let s = inner_step o c.requires.capacity w.1 (inner_at c.requires.capacity w.1.on (λ z. c.if-level-eq0.false (w.2 ∙ z))) in
    (search rules, follow_asks o c.requires.capacity s)

pub descend-requires : goal.descend-requires
descend-requires g t c κs within = let w = c.requires.under in let o = g.met.C.Comparator.total c.args.comp.now in
    let s = inner_step o c.requires.capacity w.1 (inner_at c.requires.capacity w.1.on (λ z. c.if-level-eq0.false (w.2 ∙ z))) in
    let d = below o c.requires.capacity s c.follow-index.ensures.index c.follow-index.ensures.child 0 (omega arith) in
    (omega arith, (within.0, (within.1.0, ((λ a m. search rules), (within.1.1, (search rules, (search rules, (c.requires.capacity, (omega arith, (w.0, d.on, omega (arith, w.2, s.count_is, ap length d.rows_are)))))))))))

pub returns-clause-descended : goal.returns-clause-descended
returns-clause-descended g t c = λ leaves on level_is. let o = g.met.C.Comparator.total c.args.comp.now in
    let s = inner_step o c.requires.capacity on (inner_at c.requires.capacity on.on (λ z. c.if-level-eq0.false (level_is ∙ z))) in
    let d = below o c.requires.capacity s c.follow-index.ensures.index c.follow-index.ensures.child 0 (omega arith) in
    let r = c.descend.ensures.descended leaves d.on (omega (arith, level_is, s.count_is, ap length d.rows_are)) in let set = c.set_level-2.ensures in
    record {
      leaf_is = r.leaf_is;
      entries = r.entries;
      slot_is = r.slot_is;
      increasing = r.increasing;
      value_is = r.value_is;
      found_is = r.found_is;
      nodes_wide = r.nodes_wide ∙ ap length set.node ∙ length-set c.args.self.now.node c.args.level c.args.node;
      indices_wide = r.indices_wide ∙ ap length set.entry ∙ length-set c.args.self.now.entry c.args.level c.follow-index.result.0;
      descended = passed o c.requires.capacity s _ d _ _ level_is r.descended set.here.0 set.here.1 set.node set.entry;
    }
