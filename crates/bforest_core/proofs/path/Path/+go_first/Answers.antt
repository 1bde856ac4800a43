use Rattle.bforest_core.proofs.{Words.{Advances, rules, subst, arith}, walks.Turning.{down-asks, down-turned}, walks.Turns.went}
use Rattle.bforest_core.proofs.path.Path.+go_first.Goals as goal

pub returns-then-from-level-clause-moved : goal.returns-then-from-level-clause-moved
returns-then-from-level-clause-moved g t c = λ path indices size turned. subst (λ z. Advances c.args.pool.now.nodes path indices c.args.self.now.node c.args.self.now.entry z size) c.if-from-level.true turned.moved

pub go_to_child-requires : goal.go_to_child-requires
go_to_child-requires g t c = let w = c.requires.turned in (search rules, (search rules, down-asks (omega arith) w.3 w.4))

pub go_first-requires : goal.go_first-requires
go_first-requires g t c κs within = let w = c.requires.turned in let w' = c.go_to_child.ensures in
    let turned = down-turned (omega arith) w.3 (went w'.child w'.nodes w'.entry w'.entries) in
    (omega arith, (within.0, (within.1, ((λ a m. search rules), (search rules, (search rules, (omega arith, (w.0, w.1, w.2, turned, w.4))))))))

pub returns-clause-moved : goal.returns-clause-moved
returns-clause-moved g t c = λ path indices size turned. let w' = c.go_to_child.ensures in
    c.go_first.ensures.moved path indices size (down-turned (omega arith) turned (went w'.child w'.nodes w'.entry w'.entries))
