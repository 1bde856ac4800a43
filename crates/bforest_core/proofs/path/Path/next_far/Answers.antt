use Rattle.bforest_core.proofs.{Words.{rules, ◌+◌, arith}, walks.Turning.{far-last, turn-above, turn-goes, turned}, walks.Turns.went}
use Rattle.bforest_core.proofs.path.Path.next_far.Goals as goal

pub next_turn-turn-requires : goal.next_turn-turn-requires
next_turn-turn-requires g c = (search rules, (search rules, (c.requires.height, turn-above (c.args.level + 2) c.requires.over.3 c.requires.parent (omega arith))))

pub returns-then-turn-self-clause-last : goal.returns-then-turn-self-clause-last
returns-then-turn-self-clause-last g c = λ no.
    let said = c.next_turn-turn.ensures in far-last c.requires.height said.within c.requires.last said.last c.if-turn-self.true

pub go_to_child-requires : goal.go_to_child-requires
go_to_child-requires g c = let said = c.next_turn-turn.ensures in
    (search rules, (search rules, turn-goes c.requires.height said.within c.requires.last said.last c.if-turn-self.false (said.turns c.if-turn-self.false) c.requires.over))

pub go_first-requires : goal.go_first-requires
go_first-requires g c = let said = c.next_turn-turn.ensures in let w' = c.go_to_child.ensures in let s = c.args.self.now in
    let went-on = turned c.requires.height said.within c.requires.last said.last
    c.if-turn-self.false (said.turns c.if-turn-self.false) (went w'.child w'.nodes w'.entry w'.entries) in
    (search rules, (search rules, (omega arith, (s.node, s.entry, s.size, went-on, c.requires.over))))

pub returns-clause-moved : goal.returns-clause-moved
returns-clause-moved g c = λ yes. let said = c.next_turn-turn.ensures in let w' = c.go_to_child.ensures in
    c.go_first.ensures.moved c.args.self.now.node c.args.self.now.entry c.args.self.now.size
    (turned c.requires.height said.within c.requires.last said.last
    c.if-turn-self.false (said.turns c.if-turn-self.false) (went w'.child w'.nodes w'.entry w'.entries))
