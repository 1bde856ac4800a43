use Rattle.bforest_core.proofs.Words.{ap, arith, drop, length-drop, slice_get, sym, ◌∙◌}
use Rattle.bforest_core.proofs.union.Building.{first-taken}
use Rattle.bforest_core.proofs.leaf_source.InOrderLeafSource.next_leaf.Goals as goal
use Rattle.std.proofs.lemmas.List.{drop-drop}

pub returns-clause-gives : goal.returns-clause-gives
returns-clause-gives g c = λ base f. let list = g.S.Source.list c.args.self.now.entries in let done = c.args.self.now.done in record {
  value = c.entry.result.1;
  first_is = first-taken c.args.count (drop done list) (ap (λ z. slice_get z 0) (sym c.part-entries.ensures) ∙ c.entry.ensures);
  reads = (omega (arith, f.reads.0, f.enough, length-drop done list), f.reads.1);
  rest_is = sym (drop-drop c.args.count done list);
}
