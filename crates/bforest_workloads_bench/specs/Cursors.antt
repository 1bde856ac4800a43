-- What a cursor keeps over many steps, wherever it goes.
use Rattle.bforest.specs.Cursor as map
use Rattle.bforest.specs.SetCursor as set
use Rattle.bforest.specs.declared.map_cursor_mut.MapCursorMut.{MapCursorMut}
use Rattle.bforest.specs.declared.set_cursor.SetCursor.{SetCursor}
use Rattle.std.specs.Prelude.{◌≡◌}
use Rattle.std.specs.declared.cmp.Ordering.{Ordering}

-- c became c', which is a valid cursor with the loans and the comparator of c
pub record MapContinues {K X C : Type 0} (order : C → K → K → Ordering) (c c' : MapCursorMut K X C) : Type 0 where
  pub map_loan : map.map_loan c' ≡ map.map_loan c
  pub forest_loan : map.forest_loan c' ≡ map.forest_loan c
  pub comparator : map.comparator c' ≡ map.comparator c
  pub valid : map.IsCursor order c'

-- a set's cursor c became c', which is a valid cursor with the loans and the comparator of c
pub record SetContinues {K C : Type 0} (order : C → K → K → Ordering) (c c' : SetCursor K C) : Type 0 where
  pub set_loan : set.set_loan c' ≡ set.set_loan c
  pub forest_loan : set.forest_loan c' ≡ set.forest_loan c
  pub comparator : set.comparator c' ≡ set.comparator c
  pub valid : set.IsCursor order c'
