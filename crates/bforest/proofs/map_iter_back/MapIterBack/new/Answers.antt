use Rattle.bforest_trees.proofs.Looking.{back-ready, back-whole}
use Rattle.bforest.proofs.map_iter_back.MapIterBack.new.Goals as goal

pub invariant_of-result : goal.invariant_of-result
invariant_of-result g c = back-ready (rw (← c.forest.view_is, ← c.map.view_is) at c.requires) (c.end.ensures.look c.forest.inside.trees c.map.inside.root)

pub returns-clause-entries : goal.returns-clause-entries
returns-clause-entries g c = rw (← c.forest.view_is, ← c.map.view_is) (back-whole (c.end.ensures.look c.forest.inside.trees c.map.inside.root))
