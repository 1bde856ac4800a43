use Rattle.bforest.proofs.Cursors.{end-stands}
use Rattle.bforest.proofs.map.Map.cursor_mut.Goals as goal

pub returns-clause-spot : goal.returns-clause-spot
returns-clause-spot g c = (end-stands c.args.forest.now c.default.result c.requires c.default.ensures).1

pub returns-clause-valid : goal.returns-clause-valid
returns-clause-valid g c = (end-stands c.args.forest.now c.default.result c.requires c.default.ensures).0
