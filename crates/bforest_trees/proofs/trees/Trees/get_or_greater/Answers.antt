use Rattle.bforest_trees.proofs.Looking.{paired}
use Rattle.bforest_trees.proofs.Peeking.{at-least}
use Rattle.bforest_trees.proofs.trees.Trees.get_or_greater.Goals as goal
use Rattle.bforest_trees.specs.Forest.{list_of}
use Rattle.bforest_nodes.specs.Entries.{place}
use Rattle.std.proofs.Common.{◌∙◌}

pub entry-requires : goal.entry-requires
entry-requires g c = record { paired = paired c.goto.ensures.look }

pub returns : goal.returns
returns g c =
    let cmp = g.C.Comparator.order c.args.comp.now in
    let es = list_of c.args.self.now c.args.handle in
    record { entry = c.entry.ensures.value c.args.self.now c.args.handle (place cmp es c.args.key) c.goto.ensures.look ∙ at-least cmp (g.met.C.Comparator.total c.args.comp.now) c.args.key es c.requires.increasing }
