use Rattle.std.proofs.Common.{arith, false, sym, true, ◌∙◌}
use Rattle.std.proofs.lemmas.Grind.{common_steps}
use Rattle.bforest_nodes.proofs.Searched.{scanned, scanned_past}
use Rattle.bforest_nodes.proofs.comparator.UnitComparator.search.Goals as goal
use Rattle.bforest_nodes.proofs.comparator.UnitComparator.search.Goals.{else-less-s-via-then-less-s+else-eq, else-less-s-via-else-less-s}

pub loop-x-preserved : goal.loop-x-preserved
loop-x-preserved g c = grind (arith, common_steps, g.met.K.Ord.matches_partial_cmp)

pub returns-then-eq : goal.returns-then-eq
returns-then-eq g c = λ _. scanned g.K.Ord.cmp c.args.s.now c.args.k c.loop-x.x-index c.loop-x.less c.loop-x-test.false c.loop-x.invariant c.index-s-less.result true c.if-less-s.true c.index-s-less.is (sym (g.met.K.Ord.matches_eq _ _) ∙ sym c.eq.ensures ∙ c.if-eq.true)

pub returns-else-less-s : goal.returns-else-less-s
returns-else-less-s g c = λ _. elim c.else-less-s.branch [
  | else-less-s-via-then-less-s+else-eq w ↦ scanned g.K.Ord.cmp c.args.s.now c.args.k c.loop-x.x-index c.loop-x.less c.loop-x-test.false c.loop-x.invariant w.index-s-less.result false w.if-less-s.true w.index-s-less.is (sym (g.met.K.Ord.matches_eq _ _) ∙ sym w.eq.ensures ∙ w.if-eq.false)
  | else-less-s-via-else-less-s w ↦ scanned_past g.K.Ord.cmp c.args.s.now c.args.k c.loop-x.x-index c.loop-x.less c.loop-x-test.false c.loop-x.invariant w.if-less-s.false
]
