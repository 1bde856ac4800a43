use Rattle.bforest_indexed_tests.proofs.Staying.{still-within}
use Rattle.bforest_indexed_tests.proofs.callers.make_room_and_insert.Goals as goal

pub returns : goal.returns
returns g c = record {
  taken = c.insert.ensures.room _ _ (still-within g.C.Comparator.order _ _ _ _ _ _ c.reserve_for.ensures.keeps c.reserve_for.ensures.same_count c.requires.stays) c.in_ok-reserve_for.ensures.room;
}
