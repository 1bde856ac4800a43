-- What maps by an index are, once a reference into them has ended.
use Rattle.bforest.specs.declared.Comparator.{Ghosts}
use Rattle.bforest_indexed.specs.Indexed.{Indexed, comparator}
use Rattle.bforest_indexed.specs.Written.{with_value_at}
use Rattle.bforest_indexed.specs.contracts.maps.Maps.{the_row}
use Rattle.std.specs.Borrow.{Fml, LendsIf, MutBor, RattleType}
use Rattle.std.specs.Prelude.{Option, ℕ}

-- if r is a reference, the maps have the last value written through it as the value of the key k of i; else they stay
abbrev pub lends_value_at : (K V C I : RattleType) (g : Ghosts C.Denot K.Denot) → MutBor (Indexed K.Denot V.Denot C.Denot) → ℕ → K.Denot → Option (MutBor V.Denot) → Fml
lends_value_at K V C I g m i k r = LendsIf (the_row K V C I g) V m r (with_value_at (g.order (comparator m.now)) m.now i k) m.now
