-- What writing the value of a key of one index leaves.
use Rattle.bforest.specs.Entries.{put, value_for}
use Rattle.bforest.specs.Forest.{free_of, memory_of, slots_of}
use Rattle.bforest.specs.Written.{with_value_for}
use Rattle.bforest_indexed.specs.Indexed.{ChangesAt, Indexed, entries, handle, node_sizes, table}
use Rattle.std.specs.Ordering.{is_eq}
use Rattle.std.specs.Prelude.{Some, false, ◌≡◌, ℕ}
use Rattle.std.specs.declared.cmp.Ordering.{Ordering}

module _ {K X C : Type 0} (cmp : K → K → Ordering) where
  -- m with w as the value of the key k of i, which is there
  abbrev pub with_value_at : Indexed K X C → ℕ → K → X → Indexed K X C
  with_value_at m i k w = record m { forest = with_value_for cmp (table m) (handle m i) k w }

  -- w was written as the value of the key k of i: no key changed and no node, and no other list
  pub record WritesAt (m : Indexed K X C) (i : ℕ) (k : K) (w : X) (m' : Indexed K X C) : Type 0 where
    pub put : entries m' i ≡ put cmp (entries m i) k w
    pub found : value_for cmp (entries m' i) k ≡ Some w
    pub others : (j : K) → is_eq (cmp k j) ≡ false → value_for cmp (entries m' i) j ≡ value_for cmp (entries m i) j
    pub sizes : node_sizes m' i ≡ node_sizes m i
    pub slots : slots_of (table m') ≡ slots_of (table m)
    pub free : free_of (table m') ≡ free_of (table m)
    pub table_memory : memory_of (table m') ≡ memory_of (table m)
    pub beside : ChangesAt m i m'
