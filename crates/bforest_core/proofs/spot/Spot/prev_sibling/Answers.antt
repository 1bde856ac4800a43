use Rattle.bforest_core.proofs.{Words.rules, walks.Cousins.{before-asks, sibling-before}}
use Rattle.bforest_core.proofs.spot.Spot.prev_sibling.Goals as goal

pub child-leaf-requires : goal.child-leaf-requires
child-leaf-requires g c = (search rules, before-asks c.requires.union c.requires.spot.is c.requires.prev)

pub returns : goal.returns
returns g c = record { before = λ root place s. sibling-before c.requires.union s c.requires.prev c.child-leaf.ensures }
