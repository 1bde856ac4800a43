-- What a forest and a writing cursor are, once a reference into them has ended.
use Rattle.bforest.specs.Cursor.{with_value_here}
use Rattle.bforest.specs.Written.{with_value_for}
use Rattle.bforest.specs.contracts.forest.Forest.{the_row as forest_row}
use Rattle.bforest.specs.contracts.map_cursor_mut.MapCursorMut.{the_row}
use Rattle.bforest.specs.declared.map_forest.TheConstants.{MAP_LEAF}
use Rattle.bforest.specs.declared.map_cursor_mut.MapCursorMut.{MapCursorMut}
use Rattle.bforest_core.specs.Table.{with_value_at}
use Rattle.bforest_trees.specs.Forest.{Forest}
use Rattle.std.specs.Borrow.{Fml, Lends, LendsIf, MutBor, RattleType}
use Rattle.std.specs.Prelude.{Option, [], ℕ}
use Rattle.std.specs.declared.cmp.Ordering.{Ordering}
use denote.Param.{number}
use mir.Syntax.{named}

-- the forest has the last value written through r at the entry of the node
abbrev pub lends_value_of : (K V : RattleType) → MutBor (Forest K.Denot V.Denot) → ℕ → ℕ → MutBor V.Denot → Fml
lends_value_of K V f node index r = Lends (forest_row K V (number MAP_LEAF)) V f r (with_value_at f.now node index)

-- if r is a reference, the forest has the last value written through it as the value of the key k of h; else the forest stays
abbrev pub lends_value_for : (K V : RattleType) → (K.Denot → K.Denot → Ordering) → MutBor (Forest K.Denot V.Denot) → Option ℕ → K.Denot → Option (MutBor V.Denot) → Fml
lends_value_for K V cmp f h k r = LendsIf (forest_row K V (number MAP_LEAF)) V f r (with_value_for cmp f.now h k) f.now

module _ (K V C : RattleType) where
  abbrev pub cursor_row : RattleType
  cursor_row = the_row (record { mir = named 1; lft = [] }) K V C

  module _ (c : MutBor (MapCursorMut K.Denot V.Denot C.Denot)) where
    -- the cursor has the last value written through r at its place
    abbrev pub lends_here : MutBor V.Denot → Fml
    lends_here r = Lends cursor_row V c r (with_value_here c.now)

    -- if r is a reference, the cursor has the last value written through it; else the cursor stays
    abbrev pub lends_value : Option (MutBor V.Denot) → Fml
    lends_value r = LendsIf cursor_row V c r (with_value_here c.now) c.now
