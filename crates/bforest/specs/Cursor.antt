-- What contracts see of a cursor: a list and a place in it; of a writing one also the forest and the handle.
use Rattle.bforest.specs.declared.map_cursor_mut.MapCursorMut.{MapCursorMut}
use Rattle.bforest_core.specs.Paths.{index_of, leaf_of}
use Rattle.bforest_core.specs.Table.{with_value_at}
use Rattle.bforest_core.specs.declared.path.Path.{Path}
use Rattle.bforest_nodes.specs.Entries.{IsIncreasing, with_value}
use Rattle.bforest_trees.specs.Forest.{Becomes, Forest, IsLive, free_of, list_of, memory_of, sizes_of, slots_of}
use Rattle.bforest_trees.specs.Looks.{IsLook, look_place}
use Rattle.bforest_trees.specs.Place.{IsSpot, spot_of}
use Rattle.bforest_trees.specs.declared.look.Look.{Look}
use Rattle.std.specs.Borrow.{GName}
use Rattle.std.specs.Prelude.{List, Option, if◌then◌else◌, length, ◌==◌, ◌≡◌, ℕ}
use Rattle.std.specs.declared.cmp.Ordering.{Ordering}

-- a reading cursor: its list, its place in the list (the number of entries is the end), and its comparator
pub record Cursor (K X C : Type 0) : Type 0 where
  pub entries : List (K × X)
  pub spot : ℕ
  pub comparator : C

-- the cursor at another place
abbrev pub at_place : {K X C : Type 0} → Cursor K X C → ℕ → Cursor K X C
at_place c p = record c { spot = p }

-- a path stands in the list of a live handle, and the list increases
pub record StandsIn {K X : Type 0} {n : ℕ} (cmp : K → K → Ordering) (f : Forest K X) (h : Option ℕ) (path : Path K X n) : Type 0 where
  pub live : IsLive f h
  pub increasing : IsIncreasing cmp (list_of f h)
  pub stands : IsSpot f h path (spot_of f h path)

-- a look stands in the list of a live handle, and the list increases
pub record LooksIn {K X : Type 0} (cmp : K → K → Ordering) (f : Forest K X) (h : Option ℕ) (look : Look K X) : Type 0 where
  pub live : IsLive f h
  pub increasing : IsIncreasing cmp (list_of f h)
  pub stands : IsLook f h look (look_place f h look)

module _ {K X C : Type 0} where
  -- the list in which a writing cursor stands
  abbrev pub entries : MapCursorMut K X C → List (K × X)
  entries c = list_of c.forest.now c.map.now

  -- the place where a writing cursor stands: the number of entries is the end
  abbrev pub spot : MapCursorMut K X C → ℕ
  spot c = spot_of c.forest.now c.map.now c.path

  -- the current forest and handle of a writing cursor
  abbrev pub forest_now : MapCursorMut K X C → Forest K X
  forest_now c = c.forest.now

  abbrev pub map_now : MapCursorMut K X C → Option ℕ
  map_now c = c.map.now

  -- the comparator of a writing cursor
  abbrev pub comparator : MapCursorMut K X C → C
  comparator c = c.comp.now

  -- the names of a writing cursor's loans of the handle and of the forest
  abbrev pub map_loan : MapCursorMut K X C → GName
  map_loan c = c.map.ghost_name

  abbrev pub forest_loan : MapCursorMut K X C → GName
  forest_loan c = c.forest.ghost_name

  -- the cursor with w as the value at its place; at the end nothing is written
  abbrev pub with_value_here : MapCursorMut K X C → X → MapCursorMut K X C
  with_value_here c w =
      record c { forest = record c.forest { now = if spot c == length (entries c) then c.forest.now else with_value_at c.forest.now (leaf_of c.path) (index_of c.path) w } }

  module _ (order : C → K → K → Ordering) where
    -- the cursor's handle is live, its list increases, and it stands on an entry or at the end
    abbrev pub IsCursor : MapCursorMut K X C → Type 0
    IsCursor c = StandsIn (order (comparator c)) (forest_now c) (map_now c) c.path

    -- c became c', which stands at p
    pub record Goes (c c' : MapCursorMut K X C) (p : ℕ) : Type 0 where
      pub map_loan : map_loan c' ≡ map_loan c
      pub forest_loan : forest_loan c' ≡ forest_loan c
      pub comparator : comparator c' ≡ comparator c
      pub spot : spot c' ≡ p
      pub valid : IsCursor c'

    -- c moved to p, and nothing else changed
    pub record Moves (c c' : MapCursorMut K X C) (p : ℕ) : Type 0 where
      pub goes : Goes c c' p
      pub forest : forest_now c' ≡ forest_now c
      pub map : map_now c' ≡ map_now c

    -- w was written as the value at the place of c: all other entries, all keys, the sizes and the place stay
    pub record Writes (c c' : MapCursorMut K X C) (w : X) : Type 0 where
      pub goes : Goes c c' (spot c)
      pub becomes : Becomes (forest_now c) (map_now c) (forest_now c') (map_now c) (with_value (entries c) (spot c) w)
      pub map : map_now c' ≡ map_now c
      pub sizes : sizes_of (forest_now c') (map_now c) ≡ sizes_of (forest_now c) (map_now c)
      pub slots : slots_of (forest_now c') ≡ slots_of (forest_now c)
      pub free : free_of (forest_now c') ≡ free_of (forest_now c)
      pub memory : memory_of (forest_now c') ≡ memory_of (forest_now c)
