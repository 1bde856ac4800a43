use Rattle.bforest.proofs.map_cursor.MapCursor.new.Goals as goal
use Rattle.bforest_trees.proofs.Looking.{look-place-is, look-stands}

pub invariant_of-result : goal.invariant_of-result
invariant_of-result g c = record {
  live = rw (← c.forest.view_is, ← c.map.view_is) at c.requires.live;
  increasing = rw (← c.forest.view_is, ← c.map.view_is) at c.requires.increasing;
  stands = look-stands (c.end.ensures.look c.forest.inside.trees c.map.inside.root);
}

pub returns-clause-spot : goal.returns-clause-spot
returns-clause-spot g c = rw (← c.forest.view_is, ← c.map.view_is) (look-place-is (c.end.ensures.look c.forest.inside.trees c.map.inside.root))
