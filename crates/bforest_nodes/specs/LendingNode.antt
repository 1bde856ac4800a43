-- The final content of a node, where a `&mut` into a leaf is returned.
use Rattle.std.specs.Prelude.{ℕ, List}
use Rattle.std.specs.Borrow.{Lends, Fml, RattleType, MutBor, Array}
use Rattle.bforest_nodes.specs.Content.{Content, with_vals, with_value}
use Rattle.bforest_nodes.specs.contracts.node.NodeData.{the_row}

module _ (K V N : RattleType) (node : MutBor (Content K.Denot V.Denot)) where
  -- once the borrow r ends, the leaf has the last values of r
  abbrev pub lends_vals : MutBor (List V.Denot) → Fml
  lends_vals r = Lends (the_row K V N) (Array V 0) node r (with_vals node.now)

  -- once the borrow r ends, the entry has the last value of r
  abbrev pub lends_value : ℕ → MutBor V.Denot → Fml
  lends_value index r = Lends (the_row K V N) V node r (with_value node.now index)
