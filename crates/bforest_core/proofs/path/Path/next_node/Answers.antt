use Rattle.bforest_core.proofs.{Words.{rules, refl, sym, ◌∙◌, arith, add-one}, walks.Turns.{has_asks, index_low, next_turn, turn_asks, turn_moves, went}}
use Rattle.bforest_core.proofs.{walks.Steps.{never, only}, walks.Turning.here-last}
use Rattle.bforest_core.proofs.path.Path.next_node.Goals as goal

pub overflow_add-level : goal.overflow_add-level
overflow_add-level g c = omega arith

pub returns-then-level-self : goal.returns-then-level-self
returns-then-level-self g c = record { moved = λ yes. never yes refl; last = λ no rows list place p. (only p (sym (add-one c.args.level) ∙ c.if-level-self.true)).1; same = λ no. refl; size = refl }

pub overflow_add-entry-2 : goal.overflow_add-entry-2
overflow_add-entry-2 g c = omega (arith, index_low c.requires.over.3 (add-one _) c.if-level-self.false c.requires.height)

pub has_child-requires : goal.has_child-requires
has_child-requires g c = (search rules, (search rules, has_asks c.requires.over.3 (add-one _) c.if-level-self.false c.requires.height))

pub overflow_add-entry-then-has_child : goal.overflow_add-entry-then-has_child
overflow_add-entry-then-has_child g c = omega (arith, index_low c.requires.over.3 (add-one _) c.if-level-self.false c.requires.height)

pub go_to_child-requires : goal.go_to_child-requires
go_to_child-requires g c = (
  search rules,
  (
    search rules,
    turn_asks c.requires.over.3 (add-one _) c.if-level-self.false c.requires.height
        (next_turn c.requires.over.3 (add-one _) c.if-level-self.false c.requires.height (λ entries slot. (c.has_child.ensures.within entries slot).0 c.if-has_child.true)),
  ),
)

pub returns-then-has_child : goal.returns-then-has_child
returns-then-has_child g c = record {
  moved = λ yes rows list place p. turn_moves p (add-one _) c.if-level-self.false c.requires.height
      (next_turn p (add-one _) c.if-level-self.false c.requires.height (λ entries slot. (c.has_child.ensures.within entries slot).0 c.if-has_child.true))
      (went c.go_to_child.ensures.child c.go_to_child.ensures.nodes c.go_to_child.ensures.entry c.go_to_child.ensures.entries);
  last = never refl;
  same = never refl;
  size = c.go_to_child.ensures.size;
}

pub next_far-requires : goal.next_far-requires
next_far-requires g c = let s = c.args.self.now in
    let last = here-last c.args.pool.now.nodes s.node s.entry (sym (add-one _)) (omega arith) c.has_child.ensures.within c.if-has_child.false in
    (search rules, (search rules, (c.requires.height, (c.requires.over, ((λ e. c.if-level-self.false (add-one c.args.level ∙ e)), last)))))

pub returns : goal.returns
returns g c = record { moved = c.next_far.ensures.moved; last = c.next_far.ensures.last; same = c.next_far.ensures.same; size = c.next_far.ensures.size }
