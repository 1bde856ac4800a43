use Rattle.bforest.proofs.map_cursor.MapCursor.entry.Goals as goal
use Rattle.bforest_trees.proofs.Looking.{look-within, paired}

pub entry-requires : goal.entry-requires
entry-requires g c = record { paired = paired c.self.invariant.stands }

pub returns : goal.returns
returns g c = record {
  entry = rw (← c.self.view_is) (c.entry.ensures.value _ _ _ c.self.invariant.stands);
  within = rw (← c.self.view_is) (look-within c.self.invariant.stands);
}
