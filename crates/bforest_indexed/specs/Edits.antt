-- What work by a writing cursor leaves.
use Rattle.bforest.specs.Cursor.{IsCursor, comparator, forest_loan, forest_now, map_loan, map_now}
use Rattle.bforest.specs.Forest.{Becomes, Forest, IsFitFor, list_of, sizes_of, slots_of}
use Rattle.bforest.specs.Room.{Balances}
use Rattle.bforest.specs.declared.map_cursor_mut.MapCursorMut.{MapCursorMut}
use Rattle.bforest_indexed.specs.Indexed.{ChangesAt, Indexed, handle, table}
use Rattle.std.specs.Prelude.{Option, length, ◌≡◌, ◌≤◌, ℕ}
use Rattle.std.specs.declared.cmp.Ordering.{Ordering}

-- the tree of h, whose leaves have at most `most` entries, changed alone; where its sizes fitted its list, they
-- still do, and the nodes balance
pub record Leaves {K X : Type 0} (most : ℕ) (f : Forest K X) (h : Option ℕ) (f' : Forest K X) (h' : Option ℕ) : Type 0 where
  pub becomes : Becomes f h f' h' (list_of f' h')
  pub balances : IsFitFor most (length (list_of f h)) (sizes_of f h) → Balances most f h f' h'

-- c became c', a valid cursor with the loans and the comparator of c, which changed its map alone
pub record Edits {K X C : Type 0} (most : ℕ) (order : C → K → K → Ordering) (c c' : MapCursorMut K X C) : Type 0 where
  pub map_loan : map_loan c' ≡ map_loan c
  pub forest_loan : forest_loan c' ≡ forest_loan c
  pub comparator : comparator c' ≡ comparator c
  pub valid : IsCursor order c'
  pub leaves : Leaves most (forest_now c) (map_now c) (forest_now c') (map_now c')

-- work by a cursor on the index i answered, and left of the table and of the handle, what `leaves` says; no other index changed
pub record EditsAt {K X C R : Type 0} (leaves : Forest K X → Option ℕ → R → Forest K X → Option ℕ → Type 0) (m : Indexed K X C) (i : ℕ) (result : R) (m' : Indexed K X C) : Type 0 where
  pub left : leaves (table m) (handle m i) result (table m') (handle m' i)
  pub beside : ChangesAt m i m'
  pub slots : slots_of (table m) ≤ slots_of (table m')
