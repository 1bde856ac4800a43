-- The final contents of a node and of a pool, where a `&mut` into them is returned.
use Rattle.std.specs.Prelude.{ℕ}
use Rattle.std.specs.Borrow.{Lends, Fml, RattleType, MutBor}
use Rattle.bforest_nodes.specs.Content.{Content}
use Rattle.bforest_core.specs.Table.{Table, with_node, with_value_at}
use Rattle.bforest_core.specs.contracts.pool.NodePool.{the_row}
use Rattle.bforest_nodes.specs.contracts.node.NodeData.{the_row as node_row}

module _ (K V N : RattleType) where
  -- once the borrow r ends, the slot has the last content of r
  abbrev pub lends_node : MutBor (Table K.Denot V.Denot) → ℕ → MutBor (Content K.Denot V.Denot) → Fml
  lends_node table node r = Lends (the_row K V N) (node_row K V N) table r (with_node table.now node)

  -- once the borrow r ends, the entry of the slot's leaf has the last value of r
  abbrev pub lends_value_at : MutBor (Table K.Denot V.Denot) → ℕ → ℕ → MutBor V.Denot → Fml
  lends_value_at table node index r = Lends (the_row K V N) V table r (with_value_at table.now node index)
