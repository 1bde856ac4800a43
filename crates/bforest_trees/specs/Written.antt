-- Where the entry of a key lies, and what writing its value leaves.
use Rattle.bforest_core.specs.Levels.{LevelNode, node}
use Rattle.bforest_core.specs.Table.{with_value_at}
use Rattle.bforest_core.specs.Trees.{tree_of}
use Rattle.bforest_nodes.specs.Entries.{IsIncreasing, is_present, place, put, value_for}
use Rattle.bforest_trees.specs.Forest.{Becomes, Forest, IsLive, free_of, list_of, memory_of, sizes_of, slots_of}
use Rattle.std.specs.Ordering.{is_eq}
use Rattle.std.specs.Prelude.{List, None, Option, Some, [], false, if◌then◌else◌, length, nat_lt, ◌-◌, ◌∷◌, ◌≡◌, ℕ}
use Rattle.std.specs.declared.cmp.Ordering.{Ordering}

module _ {K X : Type 0} where
  -- the number of the node that has the entry at a place of a row, and the entry's index there
  abbrev pub lies_in : List (LevelNode K X) → ℕ → ℕ × ℕ
  lies_in [] p = (0, 0)
  lies_in (node number entries ∷ row) p = if nat_lt p (length entries) then (number, p) else lies_in row (p - length entries)

  -- the same of a place of a handle's list
  abbrev pub lies_at : Forest K X → Option ℕ → ℕ → ℕ × ℕ
  lies_at f None p = (0, 0)
  lies_at f (Some root) p = lies_in (tree_of f.nodes root).leaves p

  module _ (cmp : K → K → Ordering) where
    -- the forest with w as the value of the key k of h; where the key is absent, nothing is written
    abbrev pub with_value_for : Forest K X → Option ℕ → K → X → Forest K X
    with_value_for f h k w =
        if is_present cmp (list_of f h) k then with_value_at f (lies_at f h (place cmp (list_of f h) k)).0 (lies_at f h (place cmp (list_of f h) k)).1 w else f

    -- w was written as the value of the key k of h: no key changed and no node, and no other list
    pub record WritesFor (f : Forest K X) (h : Option ℕ) (k : K) (w : X) (f' : Forest K X) : Type 0 where
      pub put : Becomes f h f' h (put cmp (list_of f h) k w)
      pub found : value_for cmp (list_of f' h) k ≡ Some w
      pub others : (q : K) → is_eq (cmp k q) ≡ false → value_for cmp (list_of f' h) q ≡ value_for cmp (list_of f h) q
      pub sizes : sizes_of f' h ≡ sizes_of f h
      pub slots : slots_of f' ≡ slots_of f
      pub free : free_of f' ≡ free_of f
      pub memory : memory_of f' ≡ memory_of f
      pub live : IsLive f' h
      pub increasing : (order : K → K → Ordering) → IsIncreasing order (list_of f h) → IsIncreasing order (list_of f' h)
