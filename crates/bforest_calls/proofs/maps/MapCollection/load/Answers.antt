use Rattle.bforest.specs.Calls.{Loads}
use Rattle.bforest_calls.proofs.Making.{when-err, when-ok}
use Rattle.bforest_calls.proofs.maps.MapCollection.load.Goals as goal

pub returns : goal.returns
returns g c = record {
  made = when-ok (λ r. Loads 7 c.args.forest.now c.args.entries.now r c.load.new.forest) c.load.result c.load.ensures;
  refused = when-err (λ r. Loads 7 c.args.forest.now c.args.entries.now r c.load.new.forest) c.load.result c.load.ensures;
  room = tt;
  err_forest = tt;
}
