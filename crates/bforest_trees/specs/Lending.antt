-- What a table of trees is, once a reference into it has ended.
use Rattle.bforest_trees.specs.Forest.{Forest}
use Rattle.bforest_trees.specs.contracts.trees.Trees.{the_row}
use Rattle.bforest_core.specs.Table.{with_value_at}
use Rattle.bforest_trees.specs.Written.{with_value_for}
use Rattle.std.specs.Borrow.{Fml, Lends, LendsIf, MutBor, RattleType}
use Rattle.std.specs.Prelude.{Option, ℕ}
use Rattle.std.specs.declared.cmp.Ordering.{Ordering}

-- the trees have the last value written through r at the entry of the node
abbrev pub lends_entry : (K V N : RattleType) → MutBor (Forest K.Denot V.Denot) → ℕ → ℕ → MutBor V.Denot → Fml
lends_entry K V N f node index r = Lends (the_row K V N) V f r (with_value_at f.now node index)

-- if r is a reference, the trees have the last value written through it as the value of the key k of h; else the trees stay
abbrev pub lends_value_for : (K V N : RattleType) → (K.Denot → K.Denot → Ordering) → MutBor (Forest K.Denot V.Denot) → Option ℕ → K.Denot → Option (MutBor V.Denot) → Fml
lends_value_for K V N cmp f h k r = LendsIf (the_row K V N) V f r (with_value_for cmp f.now h k) f.now
