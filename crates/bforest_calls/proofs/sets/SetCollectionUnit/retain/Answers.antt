use Rattle.bforest_calls.proofs.Kept.{filters-plain}
use Rattle.bforest_calls.proofs.sets.SetCollectionUnit.retain.Goals as goal
use Rattle.bforest_calls.specs.State.{KeepsIf}
use Rattle.std.proofs.Common.{rules}

pub returns : goal.returns
returns g c = record {
  retained = filters-plain _ (KeepsIf (g.C.Comparator.order c.args.comp.now) c.args.keys.now c.args._put) 15 _ (λ k v b w f' t. search rules) _ _ _ _
      c.retain.ensures;
}
