use Rattle.bforest_calls.proofs.Offers.{no-other-alone}
use Rattle.bforest_calls.proofs.maps.MapCollection.answer_alone.Goals as goal
use Rattle.std.proofs.Common.{refl}

pub unreachable-requires : goal.unreachable-requires
unreachable-requires g c = let d = c.in_default in no-other-alone c.args.call.now c.requires.alone d.not-First d.not-Last d.not-PopFirst d.not-PopLast d.not-Len d.not-Compact

pub returns-in-PopFirst : goal.returns-in-PopFirst
returns-in-PopFirst g c = record { makes = rw c.in-PopFirst.is (c.pop_first.result, refl, c.pop_first.ensures) }

pub returns-in-PopLast : goal.returns-in-PopLast
returns-in-PopLast g c = record { makes = rw c.in-PopLast.is (c.pop_last.result, refl, c.pop_last.ensures) }

pub returns-in-Compact : goal.returns-in-Compact
returns-in-Compact g c = record { makes = rw c.in-Compact.is (c.compact.result, refl, c.compact.ensures) }
