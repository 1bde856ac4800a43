use Rattle.std.proofs.Common.{subst, sym}
use Rattle.bforest_core.specs.Trees.{IsUnion}
use Rattle.bforest_core.proofs.union.Planting.{IsUnion-empty}
use Rattle.tree_cases.proofs.tree.Tree.new.Goals as goal

pub invariant_of-result : goal.invariant_of-result
invariant_of-result g c = record {
  union = subst (IsUnion g.row.N) (sym c.with_limit.ensures.empty) (IsUnion-empty c.args.limit 0 c.requires);
  ordered = tt;
}
