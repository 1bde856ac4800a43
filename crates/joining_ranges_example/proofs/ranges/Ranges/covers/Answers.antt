use Rattle.joining_ranges_example.proofs.Joined.{covers-at, parted}
use Rattle.joining_ranges_example.proofs.ranges.Ranges.covers.Goals as goal
use Rattle.std.proofs.Common.{None, Some, sym}

pub returns-in-Some-clause-covered : goal.returns-in-Some-clause-covered
returns-in-Some-clause-covered c = rw (← c.self.view_is) (covers-at _ c.args.point (Some c.in-Some.range) (parted _ c.args.point c.self.invariant.apart (Some c.in-Some.range) (sym c.in-Some.ensures.entry)))

pub returns-in-None-clause-covered : goal.returns-in-None-clause-covered
returns-in-None-clause-covered c = rw (← c.self.view_is) (covers-at _ c.args.point None (parted _ c.args.point c.self.invariant.apart None (sym c.in-None.ensures.entry)))
