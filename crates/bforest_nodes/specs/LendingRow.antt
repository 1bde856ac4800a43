-- The final elements of a row, where a `&mut` into it is returned. No public clause cites this module.
use Rattle.std.specs.Prelude.{ℕ, List, ◌++◌, drop, length, slice_set}
use Rattle.std.specs.Borrow.{Lends, Fml, RattleType, MutBor, Array}
use Rattle.bforest_nodes.specs.contracts.row.Row.{the_row}

module _ (T N : RattleType) (row : MutBor (the_row T N).Denot) where
  -- once the borrow r ends, the index has the last element of r
  abbrev pub lends_at : ℕ → MutBor T.Denot → Fml
  lends_at index r = Lends (the_row T N) T row r (λ x. record { items = slice_set row.now.items index x })

  -- once the borrow r ends, the row begins with the last elements of r
  abbrev pub lends_front : MutBor (List T.Denot) → Fml
  lends_front r = Lends (the_row T N) (Array T 0) row r (λ w. record { items = w ++ drop (length w) row.now.items })
