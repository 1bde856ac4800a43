use Rattle.bforest_trees.proofs.Accounts.{accounted}
use Rattle.bforest_trees.proofs.Fits.{below-slots, fit-at}
use Rattle.bforest_trees.proofs.trees.Trees.slots.Goals as goal
use Rattle.bforest_trees.specs.Forest.{Forest, IsAccounted, list_at, sizes_at, slots_of}
use Rattle.std.proofs.Common.{[], length, subst, ◌<◌, ◌≢◌}
use Rattle.bforest_core.specs.Sizes.{IsFitFor}

pub returns-clause-account : goal.returns-clause-account
returns-clause-account g c =
    subst (λ (z : Forest g.row.K.Denot g.row.V.Denot). IsAccounted z) c.self.view_is (accounted c.self.inside.pool g.row.N c.self.invariant)

pub returns-clause-fit : goal.returns-clause-fit
returns-clause-fit g c = λ n.
    subst (λ (z : Forest g.row.K.Denot g.row.V.Denot). IsFitFor g.row.N (length (list_at z n)) (sizes_at z n)) c.self.view_is (fit-at g.row.N c.self.inside.pool c.self.invariant n)

pub returns-clause-below : goal.returns-clause-below
returns-clause-below g c = λ n.
    subst (λ (z : Forest g.row.K.Denot g.row.V.Denot). list_at z n ≢ [] → n < slots_of z) c.self.view_is (below-slots g.row.N c.self.inside.pool c.self.invariant n)
