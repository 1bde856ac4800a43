use Rattle.bforest_trees.proofs.unions.Uniting.{few-entries}
use Rattle.bforest_trees.proofs.trees.Trees.room.Goals as goal
use Rattle.bforest_trees.specs.Forest.{Forest, list_at}
use Rattle.std.proofs.Common.{arith, length, subst, ◌≤◌}

pub returns-clause-few : goal.returns-clause-few
returns-clause-few g c = let t = c.slots.ensures.table in λ n.
    subst (λ (z : Forest g.row.K.Denot g.row.V.Denot). length (list_at z n) ≤ 1099511627776) c.self.view_is
    (few-entries g.row.N c.self.inside.pool c.self.invariant (omega (arith, t.slots_within, t.limit_within)) n)

pub returns-clause-capacity : goal.returns-clause-capacity
returns-clause-capacity g c = c.self.invariant.1.capacity
