use Rattle.bforest_indexed.proofs.Shorter.{shortening-first, shortening-last, shortening-next}
use Rattle.bforest_indexed.proofs.sets.Sets.truncate.Goals as goal
use Rattle.std.proofs.Common.{arith}

pub loop-self-init : goal.loop-self-init
loop-self-init g c = shortening-first

pub loop-self-smaller : goal.loop-self-smaller
loop-self-smaller g c = omega (arith, c.pop.ensures.rest.left, c.loop-self-test.true, c.len.ensures.count)

pub loop-self-preserved : goal.loop-self-preserved
loop-self-preserved g c = shortening-next c.loop-self.invariant (rw c.len.ensures.count at c.loop-self-test.true) c.pop.ensures.rest

pub returns : goal.returns
returns g c = record { rest = shortening-last c.loop-self.invariant (omega (arith, c.loop-self-test.false, c.len.ensures.count)) }
