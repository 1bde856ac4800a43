use Rattle.std.proofs.Common.{arith, refl}
use Rattle.std.proofs.lemmas.Grind.{common_steps}
use Rattle.bforest_nodes.proofs.row.shift_down.Goals as goal

pub loop-at-init : goal.loop-at-init
loop-at-init g c = record { len = refl; each = λ j d low. grind (arith, common_steps) }

pub loop-at-preserved : goal.loop-at-preserved
loop-at-preserved g c = let i = c.loop-at.invariant in let len = i.len in let each = i.each in record { len = grind (arith, common_steps); each = λ j d low. grind (arith, common_steps) }

pub returns-clause-len : goal.returns-clause-len
returns-clause-len g c = c.loop-at.invariant.len

pub returns-clause-moved : goal.returns-clause-moved
returns-clause-moved g c = λ j d low. c.loop-at.invariant.each j d (omega (arith, low, c.loop-at-test.false))
