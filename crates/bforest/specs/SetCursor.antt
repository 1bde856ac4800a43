-- What contracts see of a set's cursor: the keys and a place among them, and the forest and the handle.
use Rattle.bforest.specs.Cursor.{StandsIn}
use Rattle.bforest.specs.Set.{elements}
use Rattle.bforest.specs.declared.set_cursor.SetCursor.{SetCursor}
use Rattle.bforest_trees.specs.Forest.{Forest, list_of}
use Rattle.bforest_trees.specs.Place.{spot_of}
use Rattle.std.specs.Borrow.{GName}
use Rattle.std.specs.Prelude.{List, Option, ◌≡◌, ℕ}
use Rattle.std.specs.declared.cmp.Ordering.{Ordering}

module _ {K C : Type 0} where
  -- the current forest and handle of a cursor
  abbrev pub forest_now : SetCursor K C → Forest K (Unit {0})
  forest_now c = c.forest.now

  abbrev pub set_now : SetCursor K C → Option ℕ
  set_now c = c.set.now

  -- the list in which a cursor stands: its keys, each beside the unit
  abbrev pub entries : SetCursor K C → List (K × Unit {0})
  entries c = list_of (forest_now c) (set_now c)

  -- the keys among which a cursor stands
  abbrev pub keys : SetCursor K C → List K
  keys c = elements (forest_now c) (set_now c)

  -- the place where a cursor stands: the number of keys is the end
  abbrev pub spot : SetCursor K C → ℕ
  spot c = spot_of (forest_now c) (set_now c) c.path

  -- the comparator of a cursor
  abbrev pub comparator : SetCursor K C → C
  comparator c = c.comp.now

  -- the names of a cursor's loans of the handle and of the forest
  abbrev pub set_loan : SetCursor K C → GName
  set_loan c = c.set.ghost_name

  abbrev pub forest_loan : SetCursor K C → GName
  forest_loan c = c.forest.ghost_name

  module _ (order : C → K → K → Ordering) where
    -- the cursor's handle is live, its keys increase, and it stands on a key or at the end
    abbrev pub IsCursor : SetCursor K C → Type 0
    IsCursor c = StandsIn (order (comparator c)) (forest_now c) (set_now c) c.path

    -- c became c', which stands at p
    pub record Goes (c c' : SetCursor K C) (p : ℕ) : Type 0 where
      pub set_loan : set_loan c' ≡ set_loan c
      pub forest_loan : forest_loan c' ≡ forest_loan c
      pub comparator : comparator c' ≡ comparator c
      pub spot : spot c' ≡ p
      pub valid : IsCursor c'

    -- c moved to p, and nothing else changed
    pub record Moves (c c' : SetCursor K C) (p : ℕ) : Type 0 where
      pub goes : Goes c c' p
      pub forest : forest_now c' ≡ forest_now c
      pub set : set_now c' ≡ set_now c
