use Rattle.bforest_core.proofs.{Words.{rules, ◌+◌, ◌-◌, ◌<◌, suc, ◌∷◌, ◌++◌, length, length-append, arith, add-one, ◌∙◌}, removal.Merge.loses_child}
use Rattle.bforest_core.proofs.removal.{Merge.{merge_asks, rebuilt, healed_restored, joined_restored}, Asked.two_low}
use Rattle.bforest_core.proofs.path.Path.+merge_above.Goals as goal

pub merge_above-requires : goal.merge_above-requires
merge_above-requires g t c κs within = let w = c.requires.pending in let l = c.remove_merged.ensures w in
    let j = c.rebalance.ensures.joined c.if-rebalance.true (loses_child w.rows l (omega (arith, length-append w.before ((w.x.0, w.y.1) ∷ w.after))) g.row.N) in
    let size = c.rebalance.ensures.size in let less : c.rebalance.new.self.size - (c.args.up + 1) < t = omega (arith, two_low w) in
    search (rules, less, within.0, within.1, merge_asks l j (add-one c.args.up) size)

pub returns-then-rebalance : goal.returns-then-rebalance
returns-then-rebalance g t c = record {
  merged = λ w. let l = c.remove_merged.ensures w in
      let at : length w.before < length (w.before ++ (w.x.0, w.y.1) ∷ w.after) = omega (arith, length-append w.before ((w.x.0, w.y.1) ∷ w.after)) in
      let j = c.rebalance.ensures.joined c.if-rebalance.true (loses_child w.rows l at g.row.N) in let size = c.rebalance.ensures.size in
      let r = c.merge_above.ensures.merged (merge_asks l j (add-one c.args.up) size) in
      (suc r.0, rebuilt w.rows l at (joined_restored l j (add-one c.args.up) size r.0 r.1 (omega arith)));
  size = c.merge_above.ensures.size ∙ c.rebalance.ensures.size;
}

pub returns-else-rebalance : goal.returns-else-rebalance
returns-else-rebalance g t c = record {
  merged = λ w. let l = c.remove_merged.ensures w in
      let at : length w.before < length (w.before ++ (w.x.0, w.y.1) ∷ w.after) = omega (arith, length-append w.before ((w.x.0, w.y.1) ∷ w.after)) in
      (0, rebuilt w.rows l at (healed_restored l (c.rebalance.ensures.healed c.if-rebalance.false (loses_child w.rows l at g.row.N))));
  size = c.rebalance.ensures.size;
}

pub remove_merged-requires : goal.remove_merged-requires
remove_merged-requires g t c = search rules

pub rebalance-requires : goal.rebalance-requires
rebalance-requires g t c = let w = c.requires.pending in let l = c.remove_merged.ensures w in
    search (rules, loses_child w.rows l (omega (arith, length-append w.before ((w.x.0, w.y.1) ∷ w.after))) g.row.N)
