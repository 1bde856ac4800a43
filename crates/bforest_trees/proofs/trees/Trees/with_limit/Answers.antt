use Rattle.bforest_trees.proofs.trees.Trees.with_limit.Goals as goal
use Rattle.bforest_core.proofs.union.Planting.{IsUnion-empty}
use Rattle.bforest_core.specs.Table.{Table}
use Rattle.bforest_core.specs.Trees.{IsUnion}
use Rattle.std.proofs.Common.{subst, sym}

pub invariant_of-result : goal.invariant_of-result
invariant_of-result g c =
    subst (λ (z : Table g.row.K.Denot g.row.V.Denot). IsUnion g.row.N z) (sym c.with_limit.ensures.empty) (IsUnion-empty c.args.limit 0 c.requires)

pub returns : goal.returns
returns g c = record { empty = c.with_limit.ensures.empty }
