use Rattle.bforest_core.proofs.{Words.{rules, arith}, walks.Codes.{last-leaf, spot-height, spot-low, spot-over}}
use Rattle.bforest_core.proofs.walks.Cousins.{cousin, cousin-asks, far-behind, grand-count, parent-asks}
use Rattle.bforest_core.proofs.spot.Spot.next_cousin.Goals as goal

pub child_count-requires : goal.child_count-requires
child_count-requires g c = (search rules, grand-count c.requires.union c.requires.spot.1 c.requires.deep)

pub child-parent-requires : goal.child-parent-requires
child-parent-requires g c = (search rules, parent-asks c.requires.union c.requires.spot.1 c.requires.deep c.requires.last c.child_count.ensures.value c.if-index-child_count.true)

pub child-leaf-requires : goal.child-leaf-requires
child-leaf-requires g c = (search rules, cousin-asks c.requires.union c.requires.spot.1 c.requires.deep c.requires.last c.child_count.ensures.value c.if-index-child_count.true c.child-parent.ensures)

pub returns-then-index-child_count : goal.returns-then-index-child_count
returns-then-index-child_count g c = record {
  some = λ place s. cousin c.requires.union s c.requires.deep c.requires.last c.child_count.ensures.value c.if-index-child_count.true c.child-parent.ensures
      c.child-leaf.ensures;
  none = λ bad. absurd (let no = bad in cc);
}

pub next_far-requires : goal.next_far-requires
next_far-requires g c = (search rules, (spot-height c.requires.union c.requires.spot.1, spot-over c.requires.union c.requires.spot.1))

pub overflow_mul-spot : goal.overflow_mul-spot
overflow_mul-spot g c = omega (arith, spot-low c.requires.union c.requires.spot.1)

pub returns-in_err-far-clause-none : goal.returns-in_err-far-clause-none
returns-in_err-far-clause-none g c = λ none place s. last-leaf c.requires.union _ s.root_is
    (c.next_far.ensures.beside.none c.in_err-far.was (spot-over c.requires.union s))

pub returns-clause-some : goal.returns-clause-some
returns-clause-some g c = λ place s. far-behind c.requires.union (rw c.in_ok-far.was at c.next_far.ensures.beside) place s

pub overflow_add-index : goal.overflow_add-index
overflow_add-index g c = omega arith

pub overflow_add-spot : goal.overflow_add-spot
overflow_add-spot g c = omega (arith, spot-low c.requires.union c.requires.spot.1)
