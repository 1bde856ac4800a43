use Rattle.order_book_example.proofs.Levels.set.Goals as goal
use Rattle.std.proofs.lemmas.Result.{on_ok_weaker}

pub returns-clause-put : goal.returns-clause-put
returns-clause-put c =
    rw (← c.self.view_is) (on_ok_weaker c.insert.result (λ b. λ j. (b.list j, c.self.inside.side)) c.insert.ensures.put)
