use Rattle.bforest_core.proofs.{Words.{rules}, insertion.OnWay.{put-child-asks, split-done}}
use Rattle.bforest_core.proofs.pool.NodePool.split_on.Goals as goal

pub halve_on-first-requires : goal.halve_on-first-requires
halve_on-first-requires g c = let w = c.requires.placed in (search rules, (c.requires.full, (c.requires.room, (w.0, w.1, w.2))))

pub put_child-room-requires : goal.put_child-room-requires
put_child-room-requires g c = let w = c.requires.placed in (search rules, put-child-asks w.2 w.3 (c.halve_on-first.ensures w.0 w.1 w.2) c.digit.ensures.digit)

pub returns : goal.returns
returns g c = λ tree place w one. split-done w one (c.halve_on-first.ensures tree place w) c.digit.ensures.digit c.put_child-room.ensures
