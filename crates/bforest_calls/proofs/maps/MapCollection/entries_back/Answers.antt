use Rattle.bforest_calls.proofs.maps.MapCollection.entries_back.Goals as goal
use Rattle.std.proofs.lemmas.Iterator.Consumers.{YieldsList-from_first}
use Rattle.std.proofs.lemmas.Iterator.{items_from_collect}

pub returns : goal.returns
returns g c = record {
  entries = items_from_collect c.collect.result c.collect.ensures.ran
      (YieldsList-from_first (λ x. x) (λ es. es) _ c.iter_back.ensures.entries);
}
