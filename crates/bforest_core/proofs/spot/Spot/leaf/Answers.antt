use Rattle.bforest_core.proofs.{Words.{rules, arith}, walks.Cousins.{own-asks, own-leaf, root-leaf}}
use Rattle.bforest_core.proofs.spot.Spot.leaf.Goals as goal

pub child-requires : goal.child-requires
child-requires g c = (search rules, own-asks c.requires.union c.requires.spot.1 (omega (arith, c.if-self-eq0.false)))

pub returns-then-self-eq0 : goal.returns-then-self-eq0
returns-then-self-eq0 g c = record { leaf = λ place s. root-leaf c.requires.union s c.if-self-eq0.true }

pub returns : goal.returns
returns g c = record { leaf = λ place s. own-leaf c.requires.union s (omega (arith, c.if-self-eq0.false)) c.child.ensures }
