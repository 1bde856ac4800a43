use Rattle.bforest_calls.proofs.Units.{left-first, left-last, taken-first, taken-last}
use Rattle.bforest_calls.proofs.maps.MapRangeStepsSide.step.Goals as goal
use Rattle.bforest_calls.specs.declared.call.Seen.TheVariants as seen
use Rattle.std.proofs.Common.{ap}

pub returns-in-Front-clause-goes : goal.returns-in-Front-clause-goes
returns-in-Front-clause-goes g c =
    let s = c.next.ensures.steps in
    rw c.in-Front.is (ap seen.Pair (taken-first c.args.self.now c.next.new.self c.next.result s), left-first c.args.self.now c.next.new.self c.next.result s)

pub returns-in-Back-clause-goes : goal.returns-in-Back-clause-goes
returns-in-Back-clause-goes g c =
    let s = c.next_back.ensures.steps in
    rw c.in-Back.is (
      ap seen.Pair (taken-last c.args.self.now c.next_back.new.self c.next_back.result s),
      left-last c.args.self.now c.next_back.new.self
          c.next_back.result s,
    )
