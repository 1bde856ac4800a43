use Rattle.bforest_trees.proofs.trees.Trees.clear.Goals as goal
use Rattle.bforest_trees.proofs.Changed.{list-none}
use Rattle.bforest_trees.specs.Forest.{Forest, list_at}
use Rattle.bforest_core.proofs.union.Planting.{IsUnion-empty, no-root}
use Rattle.bforest_core.specs.Table.{Table}
use Rattle.bforest_core.specs.Trees.{IsUnion}
use Rattle.std.proofs.Common.{[], subst, sym, ◌≡◌}

pub invariant_of-self : goal.invariant_of-self
invariant_of-self g c =
    subst (λ (z : Table g.row.K.Denot g.row.V.Denot). IsUnion g.row.N z) (sym c.clear.ensures.empty) (IsUnion-empty c.self.inside.pool.limit c.self.inside.pool.memory c.self.invariant.1.capacity)

pub returns : goal.returns
returns g c = record {
  empty = rw (← c.self.view_is) c.clear.ensures.empty;
  lists = λ n. subst (λ (z : Forest g.row.K.Denot g.row.V.Denot). list_at z n ≡ []) (sym c.clear.ensures.empty) (list-none (record c.self.inside.pool { nodes = []; chain = [] }) n (no-root g.row.K.Denot g.row.V.Denot n));
}
