-- The final entries of a leaf, where a `&mut` to the values is returned. No public clause cites this module.
use Rattle.std.specs.Prelude.{List, ◌++◌, drop, length}
use Rattle.std.specs.Borrow.{Lends, Fml, RattleType, MutBor, Array}
use Rattle.bforest_nodes.specs.contracts.entries.Entries.{the_row}

module _ (K V N : RattleType) (entries : MutBor (the_row K V N).Denot) where
  -- once the borrow r ends, the values begin with the last values of r
  abbrev pub lends_front_vals : MutBor (List V.Denot) → Fml
  lends_front_vals r = Lends (the_row K V N) (Array V 0) entries r
      (λ w. record entries.now { vals = record { items = w ++ drop (length w) entries.now.vals.items } })
