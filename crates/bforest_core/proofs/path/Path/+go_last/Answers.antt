use Rattle.bforest_core.proofs.{Words.{Retreats, rules, subst, arith}, walks.Turning.{back-turned, last-goes, last-held}, walks.Turns.went}
use Rattle.bforest_core.proofs.path.Path.+go_last.Goals as goal

pub returns-then-from-level-clause-moved : goal.returns-then-from-level-clause-moved
returns-then-from-level-clause-moved g t c = λ path indices size turned. subst (λ z. Retreats c.args.pool.now.nodes path indices c.args.self.now.node c.args.self.now.entry z size) c.if-from-level.true turned.moved

pub last_index-last-requires : goal.last_index-last-requires
last_index-last-requires g t c = let w = c.requires.turned in (search rules, last-held (omega arith) w.3 c.index-self-from.result (omega arith) w.4)

pub go_to_child-requires : goal.go_to_child-requires
go_to_child-requires g t c = let w = c.requires.turned in
    (search rules, (search rules, last-goes (omega arith) w.3 c.index-self-from.result (omega arith) c.last_index-last.ensures.last w.4))

pub go_last-requires : goal.go_last-requires
go_last-requires g t c κs within = let w = c.requires.turned in let w' = c.go_to_child.ensures in
    let turned = back-turned (omega arith) w.3 c.index-self-from.result (omega arith)
    c.last_index-last.ensures.last (went w'.child w'.nodes w'.entry w'.entries) in
    (omega arith, (within.0, (within.1, ((λ a m. search rules), (search rules, (search rules, (omega arith, (w.0, w.1, w.2, turned, w.4))))))))

pub returns-clause-moved : goal.returns-clause-moved
returns-clause-moved g t c = λ path indices size turned. let w' = c.go_to_child.ensures in
    c.go_last.ensures.moved path indices size (back-turned (omega arith) turned c.index-self-from.result (omega arith) c.last_index-last.ensures.last (went w'.child w'.nodes w'.entry w'.entries))
