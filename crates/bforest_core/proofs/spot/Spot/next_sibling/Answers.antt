use Rattle.bforest_core.proofs.{Words.{rules, arith}, walks.Codes.spot-low, walks.Cousins.{sibling-asks, sibling-behind}}
use Rattle.bforest_core.proofs.spot.Spot.next_sibling.Goals as goal

pub child-leaf-requires : goal.child-leaf-requires
child-leaf-requires g c = (search rules, sibling-asks c.requires.union c.requires.spot.is c.requires.next)

pub overflow_add-spot : goal.overflow_add-spot
overflow_add-spot g c = omega (arith, spot-low c.requires.union c.requires.spot.is)

pub returns : goal.returns
returns g c = record {
  leaf = λ root place s. (sibling-behind c.requires.union s c.requires.next c.child-leaf.ensures).1;
  spot = λ root place s. (sibling-behind c.requires.union s c.requires.next c.child-leaf.ensures).0;
}
