use Rattle.bforest_tests.proofs.Roomy.{map-within}
use Rattle.bforest_tests.proofs.callers.room.nodes_within.Goals as goal

pub returns : goal.returns
returns g c = record { within = map-within 7 c.args.forest.now c.args.map.now c.args.entries c.nodes_for.result c.nodes_in_use-nodes.ensures.fit c.nodes_for.ensures.enough c.requires.few }
