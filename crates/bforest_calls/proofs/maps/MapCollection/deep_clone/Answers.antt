use Rattle.bforest.specs.Calls.{Clones}
use Rattle.bforest_calls.proofs.Making.{when-err, when-ok}
use Rattle.bforest_calls.proofs.maps.MapCollection.deep_clone.Goals as goal

pub returns : goal.returns
returns g c = record {
  made = when-ok (λ r. Clones c.args.forest.now c.args.self.now r c.deep_clone.new.forest) c.deep_clone.result c.deep_clone.ensures;
  refused = when-err (λ r. Clones c.args.forest.now c.args.self.now r c.deep_clone.new.forest) c.deep_clone.result c.deep_clone.ensures;
}
