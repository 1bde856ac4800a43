use Rattle.bforest_core.proofs.{Words.{rules, arith}, walks.Turning.{before-goes, far-first, turned-back}, walks.Turns.went}
use Rattle.bforest_core.proofs.path.Path.prev_node.Goals as goal

pub overflow_add-level : goal.overflow_add-level
overflow_add-level g c = omega arith

pub prev_turn-turn-requires : goal.prev_turn-turn-requires
prev_turn-turn-requires g c = (search rules, (c.requires.height, omega arith))

pub returns-then-turn-self-clause-first : goal.returns-then-turn-self-clause-first
returns-then-turn-self-clause-first g c = λ no. far-first c.requires.height c.prev_turn-turn.ensures.within c.prev_turn-turn.ensures.first c.if-turn-self.true

pub overflow_sub-index : goal.overflow_sub-index
overflow_sub-index g c = c.prev_turn-turn.ensures.turns c.if-turn-self.false

pub go_to_child-requires : goal.go_to_child-requires
go_to_child-requires g c = let said = c.prev_turn-turn.ensures in
    (search rules, (search rules, before-goes c.requires.height said.within said.first c.if-turn-self.false (said.turns c.if-turn-self.false) c.requires.over))

pub go_last-requires : goal.go_last-requires
go_last-requires g c = let said = c.prev_turn-turn.ensures in let w' = c.go_to_child.ensures in let s = c.args.self.now in
    let went-back = turned-back c.requires.height said.within said.first
    c.if-turn-self.false (said.turns c.if-turn-self.false) (went w'.child w'.nodes w'.entry w'.entries) in
    (search rules, (search rules, (omega (arith, said.within), (s.node, s.entry, s.size, went-back, c.requires.over))))

pub returns-clause-moved : goal.returns-clause-moved
returns-clause-moved g c = λ yes. let said = c.prev_turn-turn.ensures in let w' = c.go_to_child.ensures in
    c.go_last.ensures.moved c.args.self.now.node c.args.self.now.entry c.args.self.now.size
    (turned-back c.requires.height said.within said.first
    c.if-turn-self.false (said.turns c.if-turn-self.false) (went w'.child w'.nodes w'.entry w'.entries))
