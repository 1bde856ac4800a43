use Rattle.bforest_calls.proofs.Offers.{beside-alone}
use Rattle.bforest_calls.proofs.maps.MapCollection.answer_beside.Goals as goal
use Rattle.std.proofs.Common.{refl}

pub unreachable-requires : goal.unreachable-requires
unreachable-requires g c = let d = c.in_default in beside-alone c.args.call.now c.requires.beside d.not-Unite d.not-Intersect d.not-Subtract d.not-IsSubset d.not-IsDisjoint

pub returns-in-Intersect : goal.returns-in-Intersect
returns-in-Intersect g c = record { makes = rw c.in-Intersect.is (c.intersect_with.result, refl, c.intersect_with.ensures) }

pub returns-in-Subtract : goal.returns-in-Subtract
returns-in-Subtract g c = record { makes = rw c.in-Subtract.is (c.difference_with.result, refl, c.difference_with.ensures) }
