-- What contracts see of a reading cursor of a map, by the words that a writing one has in specs `Cursor`.
use Rattle.bforest.specs.Cursor.{Cursor}
use Rattle.std.specs.Prelude.{List, ℕ}

module _ {K X C : Type 0} where
  -- the list in which a cursor stands
  abbrev pub entries : Cursor K X C → List (K × X)
  entries c = c.entries

  -- the place where a cursor stands: the number of entries is the end
  abbrev pub spot : Cursor K X C → ℕ
  spot c = c.spot

  -- the comparator of a cursor
  abbrev pub comparator : Cursor K X C → C
  comparator c = c.comparator
