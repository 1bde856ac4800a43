use Rattle.bforest_core.proofs.{Words.{rules, arith}, walks.Codes.{spot-height, spot-low, spot-over}}
use Rattle.bforest_core.proofs.walks.Cousins.{cousin-before, cousin-before-asks, cousin-last-asks, far-before, parent-before-asks}
use Rattle.bforest_core.proofs.spot.Spot.prev_cousin.Goals as goal

pub prev_far-requires : goal.prev_far-requires
prev_far-requires g c = (search rules, (spot-height c.requires.union c.requires.spot.1, spot-over c.requires.union c.requires.spot.1))

pub returns-in_err-far-clause-none : goal.returns-in_err-far-clause-none
returns-in_err-far-clause-none g c = λ none place s. c.prev_far.ensures.beside.none c.in_err-far.was (spot-over c.requires.union s)

pub returns-clause-some : goal.returns-clause-some
returns-clause-some g c = λ place s. far-before c.requires.union (rw c.in_ok-far.was at c.prev_far.ensures.beside) place s

pub child-parent-requires : goal.child-parent-requires
child-parent-requires g c = (search rules, parent-before-asks c.requires.union c.requires.spot.1 c.requires.deep c.requires.first c.if-index-gt0.true)

pub last_index-last-requires : goal.last_index-last-requires
last_index-last-requires g c = (
  search rules,
  cousin-last-asks c.requires.union c.requires.spot.1 c.requires.deep c.requires.first c.if-index-gt0.true c.child-parent.ensures,
)

pub child-leaf-requires : goal.child-leaf-requires
child-leaf-requires g c = (
  search rules,
  cousin-before-asks c.requires.union c.requires.spot.1 c.requires.deep c.requires.first c.if-index-gt0.true c.child-parent.ensures
      c.last_index-last.ensures.last,
)

pub returns-then-index-gt0 : goal.returns-then-index-gt0
returns-then-index-gt0 g c = record {
  some = λ place s.
      cousin-before c.requires.union s c.requires.deep c.requires.first c.if-index-gt0.true c.child-parent.ensures c.last_index-last.ensures.last
      c.child-leaf.ensures;
  none = λ bad. absurd (let no = bad in cc);
}

pub overflow_add-spot : goal.overflow_add-spot
overflow_add-spot g c = omega (arith, spot-low c.requires.union c.requires.spot.1)

pub overflow_sub-index : goal.overflow_sub-index
overflow_sub-index g c = omega arith

pub overflow_sub-spot : goal.overflow_sub-spot
overflow_sub-spot g c = omega arith

pub overflow_mul-spot : goal.overflow_mul-spot
overflow_mul-spot g c = omega (arith, spot-low c.requires.union c.requires.spot.1)
