-- What contracts see of maps and of sets that are named by an index: a forest, an order, and a handle for each index. A set's values are
-- all the unit.
use Rattle.bforest.specs.Bounds.{entries_between, entries_outside, is_between, start_place}
use Rattle.bforest.specs.Calls.{fewest, need_of_union, sizes_outside, truncation}
use Rattle.bforest.specs.Entries.{IsIncreasing, cut, is_present, place, put, value_for}
use Rattle.bforest.specs.Forest.{ArePacked, Forest, Gives, GrowsFor, IsFitFor, IsLive, IsTooMany, NeedsGrowth, Takes, detached, emptied, free_of, limit_of, list_of, memory_of, need_of, severed, shrink, sizes_of, sizes_with, sizes_without, slots_of}
-- `TakesAndGives d sizes f f'`: d slots were taken, and then those of a tree of these sizes freed.
pub use Rattle.bforest.specs.Forest.{TakesAndGives}
use Rattle.bforest.specs.Refusal.{Full, Memory, OutOfMemory}
use Rattle.bforest.specs.Retain.{Retains, sizes_by}
use Rattle.bforest.specs.Room.{IsEnoughFor, IsMostFor, node_count}
use Rattle.bforest.specs.Union.{are_among, fits, kept_from, kept_of, keeps_all, united}
use Rattle.std.proofs.Math.Logic.{◌⊎◌}
use Rattle.bforest_indexed.specs.Handles.{Holds}
use Rattle.std.specs.Cmp.{IsTotalOrder}
use Rattle.std.specs.Fn.{FnOnceReturns, Once}
use Rattle.std.specs.List.{sum_by}
use Rattle.std.specs.Map.{keys_of}
use Rattle.std.specs.Prelude.{Bool, Err, IfOk, IfSome, IsOk, IsSome, List, None, Ok, OnErr, OnOk, Option, Result, Some, [], drop, false, get_or, if◌then◌else◌, length, map, max, min, nat_eq, nat_lt, not, remove, slice_get, suc, take, true, unwrap_or, zero, ℕ, ◌%◌, ◌*◌, ◌+◌, ◌-◌, ◌<◌, ◌↔◌, ◌∷◌, ◌≡◌, ◌≢◌, ◌≤◌}
use Rattle.std.specs.Ordering.{is_eq, is_lt}
use Rattle.std.specs.declared.cmp.Ordering.{Ordering}
use Rattle.std.specs.declared.ops.Bound.{Bound}
pub use Rattle.bforest.specs.Calls.{as_inserted}

-- the table has a slot for each node that `lists` lists of at most `most_entries` entries can have, used ones included; a leaf has at most
-- `most` entries
abbrev pub HasRoom : {K X : Type 0} → ℕ → ℕ → ℕ → Forest K X → Type 0
HasRoom most lists most_entries f = (nodes : ℕ) × IsEnoughFor most most_entries nodes × (lists * nodes ≤ slots_of f)

-- the limit allows the table so many slots
abbrev pub MayHave : {K X : Type 0} → ℕ → ℕ → ℕ → Forest K X → Type 0
MayHave most lists most_entries f = (nodes : ℕ) × IsEnoughFor most most_entries nodes × (lists * nodes ≤ limit_of f)

-- Contracts read it by the words below alone.
pub record Indexed (K X C : Type 0) : Type 0 where
  pub forest : Forest K X
  pub order : C
  pub handles : List (Option ℕ)
  pub held : ℕ

module _ {K X C : Type 0} where
  -- the table of all entries
  abbrev pub table : Indexed K X C → Forest K X
  table m = m.forest

  -- the comparator
  abbrev pub comparator : Indexed K X C → C
  comparator m = m.order

  -- the number of indices
  abbrev pub count : Indexed K X C → ℕ
  count m = length m.handles

  -- for how many indices memory is held
  abbrev pub memory : Indexed K X C → ℕ
  memory m = m.held

  -- m, with memory for n indices
  abbrev pub holding : ℕ → Indexed K X C → Indexed K X C
  holding n m = record m { held = n }

  -- the handle of an index, which is empty past the end
  abbrev pub handle : Indexed K X C → ℕ → Option ℕ
  handle m i = get_or m.handles i None

  -- the list of an index
  abbrev pub entries : Indexed K X C → ℕ → List (K × X)
  entries m i = list_of (table m) (handle m i)

  -- the lists of all indices
  abbrev pub lists : Indexed K X C → List (List (K × X))
  lists m = map (list_of (table m)) m.handles

  -- the lists of the first n indices as a stack, on which the last of them lies on top
  abbrev pub stack : Indexed K X C → ℕ → List (List (K × X))
  stack m zero = []
  stack m (suc n) = entries m n ∷ stack m n

  -- the keys of an index
  abbrev pub keys : Indexed K X C → ℕ → List K
  keys m i = keys_of (entries m i)

  -- the sizes of the nodes of its tree
  abbrev pub node_sizes : Indexed K X C → ℕ → List (List ℕ)
  node_sizes m i = sizes_of (table m) (handle m i)

  -- the number of nodes of the trees of all indices
  abbrev pub nodes_in_use : Indexed K X C → ℕ
  nodes_in_use m = sum_by (λ h. node_count (sizes_of (table m) h)) m.handles

  -- each handle is live, each list increases, in nodes of fit sizes, and no two indices have one tree; the table has no tree but theirs.
  -- `most` is the number of entries that a leaf has at most
  pub record AreKept (most : ℕ) (cmp : K → K → Ordering) (m : Indexed K X C) : Type 0 where
    pub odd : most % 2 ≡ 1
    pub live : (i : ℕ) → IsLive (table m) (handle m i)
    pub increasing : (i : ℕ) → IsIncreasing cmp (entries m i)
    pub apart : (i j n : ℕ) → handle m i ≡ Some n → handle m j ≡ Some n → i ≡ j
    pub fit : (i : ℕ) → IsFitFor most (length (entries m i)) (node_sizes m i)
    pub account : slots_of (table m) ≡ free_of (table m) + nodes_in_use m

  -- m became m', and each index keeps its list
  pub record KeepsAll (m m' : Indexed K X C) : Type 0 where
    pub lists : (i : ℕ) → entries m' i ≡ entries m i
    pub sizes : (i : ℕ) → node_sizes m' i ≡ node_sizes m i
    pub same_comparator : comparator m' ≡ comparator m

  -- m became m', where n indices in all were to have memory
  abbrev pub HoldsFor : ℕ → Indexed K X C → Indexed K X C → Type 0
  HoldsFor n m m' = Holds n (memory m) (memory m')

  -- m became m', and at most the list of i changed
  pub record ChangesAt (m : Indexed K X C) (i : ℕ) (m' : Indexed K X C) : Type 0 where
    pub others : (j : ℕ) → j ≢ i → entries m' j ≡ entries m j
    pub other_sizes : (j : ℕ) → j ≢ i → node_sizes m' j ≡ node_sizes m j
    pub same_count : count m' ≡ count m
    pub same_comparator : comparator m' ≡ comparator m
    pub same_limit : limit_of (table m') ≡ limit_of (table m)
    pub same_memory : memory m' ≡ memory m

  -- the lists of i and j changed places
  pub record Swaps (m : Indexed K X C) (i j : ℕ) (m' : Indexed K X C) : Type 0 where
    pub first : entries m' i ≡ entries m j
    pub second : entries m' j ≡ entries m i
    pub others : (q : ℕ) → q ≢ i → q ≢ j → entries m' q ≡ entries m q
    pub first_sizes : node_sizes m' i ≡ node_sizes m j
    pub second_sizes : node_sizes m' j ≡ node_sizes m i
    pub other_sizes : (q : ℕ) → q ≢ i → q ≢ j → node_sizes m' q ≡ node_sizes m q
    pub same_count : count m' ≡ count m
    pub same_comparator : comparator m' ≡ comparator m
    pub same_table : table m' ≡ table m
    pub same_memory : memory m' ≡ memory m

  -- all lists ended
  pub record ClearsAll (m m' : Indexed K X C) : Type 0 where
    pub lists : (i : ℕ) → entries m' i ≡ []
    pub sizes : (i : ℕ) → node_sizes m' i ≡ []
    pub forest : table m' ≡ emptied (table m)
    pub same_count : count m' ≡ count m
    pub same_comparator : comparator m' ≡ comparator m
    pub same_memory : memory m' ≡ memory m

  -- the lists of the indices from n on ended, and so did these indices; the nodes that they had are free
  pub record Truncates (m : Indexed K X C) (n : ℕ) (m' : Indexed K X C) : Type 0 where
    pub lists : (i : ℕ) → i < n → entries m' i ≡ entries m i
    pub sizes : (i : ℕ) → i < n → node_sizes m' i ≡ node_sizes m i
    pub ended : (i : ℕ) → n ≤ i → entries m' i ≡ []
    pub ended_sizes : (i : ℕ) → n ≤ i → node_sizes m' i ≡ []
    pub left : count m' ≡ min n (count m)
    pub slots : slots_of (table m') ≡ slots_of (table m)
    pub free : free_of (table m') + nodes_in_use m' ≡ free_of (table m) + nodes_in_use m
    pub table_memory : memory_of (table m') ≡ memory_of (table m)
    pub same_comparator : comparator m' ≡ comparator m
    pub same_limit : limit_of (table m') ≡ limit_of (table m)
    pub same_memory : memory m' ≡ memory m
    pub same : count m ≤ n → m' ≡ m

  -- the list of i ended
  pub record ClearsAt (m : Indexed K X C) (i : ℕ) (m' : Indexed K X C) : Type 0 where
    pub cleared : entries m' i ≡ []
    pub sizes : node_sizes m' i ≡ []
    pub beside : ChangesAt m i m'
    pub account : Gives (node_sizes m i) [] (table m) (table m')

  -- the number of nodes that a copy of i takes at j, which is none where both are one
  abbrev pub copy_need : Indexed K X C → ℕ → ℕ → ℕ
  copy_need m i j = if nat_eq i j then 0 else node_count (node_sizes m i)

  -- there are fewer than `lists` lists, of at most `most_entries` entries each
  pub record IsShortOf (lists most_entries : ℕ) (m : Indexed K X C) : Type 0 where
    pub fewer : count m < lists
    pub each : (j : ℕ) → length (entries m j) ≤ most_entries

  -- the tree of i was made anew, packed, beside the old one, which was freed then; or the call was refused, and nothing changed. A leaf has at
  -- most `most` entries
  pub record CompactsAt (most : ℕ) (m : Indexed K X C) (i : ℕ) (result : Result (Unit {0}) OutOfMemory) (m' : Indexed K X C) : Type 0 where
    pub same_list : entries m' i ≡ entries m i
    pub packed : OnOk result (ArePacked most (node_sizes m' i))
    pub nodes : OnOk result (node_count (node_sizes m' i) ≡ fewest most (length (entries m i)))
    pub beside : ChangesAt m i m'
    pub account : OnOk result (TakesAndGives (fewest most (length (entries m i))) (node_sizes m i) (table m) (table m'))
    pub full : (result ≡ Err Full) ↔ IsTooMany (fewest most (length (entries m i))) (table m)
    pub memory : result ≡ Err Memory → NeedsGrowth (fewest most (length (entries m i))) (table m)
    pub succeeds : fewest most (length (entries m i)) ≤ free_of (table m) → IsOk result
    pub refused : OnErr result (m' ≡ m)
    pub room : (lists most_entries : ℕ) → IsShortOf lists most_entries m → HasRoom most lists most_entries (table m) → IsOk result
    pub never_full : (lists most_entries : ℕ) → IsShortOf lists most_entries m → MayHave most lists most_entries (table m) → result ≢ Err Full

  -- the list of i was copied to j, and that of j ended; or the call was refused, and nothing changed. A leaf has at most `most` entries
  pub record CopiesAt (most : ℕ) (m : Indexed K X C) (i j : ℕ) (result : Result (Unit {0}) OutOfMemory) (m' : Indexed K X C) : Type 0 where
    pub copied : OnOk result (entries m' j ≡ entries m i)
    pub sizes : OnOk result (node_sizes m' j ≡ node_sizes m i)
    pub beside : ChangesAt m j m'
    pub account : OnOk result (i ≢ j → TakesAndGives (node_count (node_sizes m i)) (node_sizes m j) (table m) (table m'))
    pub same : i ≡ j → m' ≡ m
    pub full : (result ≡ Err Full) ↔ IsTooMany (copy_need m i j) (table m)
    pub memory : result ≡ Err Memory → NeedsGrowth (copy_need m i j) (table m)
    pub succeeds : copy_need m i j ≤ free_of (table m) → IsOk result
    pub refused : OnErr result (m' ≡ m)
    pub room : (lists most_entries : ℕ) → IsShortOf lists most_entries m → HasRoom most lists most_entries (table m) → IsOk result
    pub never_full : (lists most_entries : ℕ) → IsShortOf lists most_entries m → MayHave most lists most_entries (table m) → result ≢ Err Full

  -- a predicate f was asked of each entry of i; the entries answered true stay, with the values that the calls left
  pub record FiltersAt {F : Type 0} (most : ℕ) (step : F → K → X → Bool → X → F → Type 0) (f : F) (m : Indexed K X C) (i : ℕ) (m' : Indexed K X C) : Type 0 where
    pub kept : Retains step most f (entries m i) (node_sizes m i) (entries m' i) (node_sizes m' i)
    pub beside : ChangesAt m i m'
    pub account : Gives (node_sizes m i) (node_sizes m' i) (table m) (table m')

  -- the entry at a place of i was removed and is answered, where a leaf has at most `most` entries; at the end
  -- none is, and nothing changed
  pub record PopsAt (most : ℕ) (m : Indexed K X C) (i place : ℕ) (result : Option (K × X)) (m' : Indexed K X C) : Type 0 where
    pub entry : result ≡ slice_get (entries m i) place
    pub removed : entries m' i ≡ remove (entries m i) place
    pub gone : {order : K → K → Ordering} → IsTotalOrder order → IsIncreasing order (entries m i) → IfSome result (λ e. value_for order (entries m' i) e.0 ≡ None)
    pub others : {order : K → K → Ordering} → IsTotalOrder order → IsIncreasing order (entries m i) → IfSome result (λ e. (q : K) → is_eq (order e.0 q) ≡ false → value_for order (entries m' i) q ≡ value_for order (entries m i) q)
    pub sizes : node_sizes m' i ≡ (if nat_lt place (length (entries m i)) then shrink most place (node_sizes m i) else node_sizes m i)
    pub beside : ChangesAt m i m'
    pub account : Gives (node_sizes m i) (node_sizes m' i) (table m) (table m')
    pub end : length (entries m i) ≤ place → m' ≡ m

  -- the value of the key k of i became what a call of q with it returned, which is answered, in the same nodes; or the key is absent, and
  -- nothing changed
  pub record UpdatesAt {F : Type 0} (g : Once F (X × Unit {0}) X) (cmp : K → K → Ordering) (m : Indexed K X C) (i : ℕ) (k : K) (q : F) (result : Option X) (m' : Indexed K X C) : Type 0 where
    pub called : IfSome result (λ w. (v : X) × (value_for cmp (entries m i) k ≡ Some v) × FnOnceReturns g q (v, tt) w)
    pub put : IfSome result (λ w. entries m' i ≡ put cmp (entries m i) k w)
    pub found : IfSome result (λ w. value_for cmp (entries m' i) k ≡ Some w)
    pub others : (j : K) → is_eq (cmp k j) ≡ false → value_for cmp (entries m' i) j ≡ value_for cmp (entries m i) j
    pub sizes : node_sizes m' i ≡ node_sizes m i
    pub slots : slots_of (table m') ≡ slots_of (table m)
    pub free : free_of (table m') ≡ free_of (table m)
    pub table_memory : memory_of (table m') ≡ memory_of (table m)
    pub beside : ChangesAt m i m'
    pub absent : result ≡ None → value_for cmp (entries m i) k ≡ None
    pub same : result ≡ None → m' ≡ m

  -- there are at most `lists` lists, of at most `most_entries` entries each, and that of i has fewer where k is absent
  pub record StaysWithin (cmp : K → K → Ordering) (lists most_entries : ℕ) (m : Indexed K X C) (i : ℕ) (k : K) : Type 0 where
    pub few : count m ≤ lists
    pub each : (j : ℕ) → length (entries m j) ≤ most_entries
    pub here : is_present cmp (entries m i) k ≡ false → length (entries m i) < most_entries

  -- the number of free slots with which `lists` lists have room, of at most `nodes` nodes each
  abbrev pub missing : ℕ → ℕ → Indexed K X C → ℕ
  missing lists nodes m = lists * nodes - nodes_in_use m

  -- Room was to be made for `lists` lists of at most `most_entries` entries each, where a leaf has at most `most`. All lists stay, as few
  -- slots are added as make the room, and memory for so many indices is held. Or the call failed: then memory for indices may have been
  -- taken, and nothing else changed.
  pub record ReservesFor (most lists most_entries : ℕ) (m : Indexed K X C) (result : Result (Unit {0}) OutOfMemory) (m' : Indexed K X C) : Type 0 where
    pub keeps : KeepsAll m m'
    pub same_count : count m' ≡ count m
    pub same_limit : limit_of (table m') ≡ limit_of (table m)
    pub room : OnOk result (HasRoom most lists most_entries (table m'))
    pub indices : OnOk result (lists ≤ memory m')
    pub holds : HoldsFor lists m m'
    pub no_fewer : slots_of (table m) ≤ slots_of (table m')
    pub added_free : slots_of (table m') + free_of (table m) ≡ slots_of (table m) + free_of (table m')
    pub no_more : OnOk result ((nodes : ℕ) → IsEnoughFor most most_entries nodes → slots_of (table m') ≤ max (slots_of (table m)) (lists * nodes))
    pub growth : (nodes : ℕ) → IsMostFor most most_entries nodes → GrowsFor (missing lists nodes m) (table m) (table m')
    pub enough : HasRoom most lists most_entries (table m) → lists ≤ memory m → IsOk result
    pub same : HasRoom most lists most_entries (table m) → m' ≡ holding (memory m') m
    pub refused : OnErr result (m' ≡ holding (memory m') m)
    pub full : (result ≡ Err Full) ↔ ¬ (MayHave most lists most_entries (table m))
    pub full_same : result ≡ Err Full → m' ≡ m
    pub memory : result ≡ Err Memory → (memory m' < lists) ⊎ ((nodes : ℕ) → IsMostFor most most_entries nodes → NeedsGrowth (missing lists nodes m) (table m))

  -- `most` is the number of entries that a leaf has at most; `increasing` says that the list of i did before
  module _ (most : ℕ) (cmp : K → K → Ordering) where
    -- x was inserted at the key k of i, or replaced the value there, which is answered; or the call was refused, and nothing changed
    pub record InsertsAt (m : Indexed K X C) (i : ℕ) (k : K) (x : X) (result : Result (Option X) OutOfMemory) (m' : Indexed K X C) : Type 0 where
      pub ok : IfOk result (λ old. old ≡ value_for cmp (entries m i) k)
      pub put : OnOk result (entries m' i ≡ put cmp (entries m i) k x)
      pub found : OnOk result (value_for cmp (entries m' i) k ≡ Some x)
      pub others : (q : K) → is_eq (cmp k q) ≡ false → value_for cmp (entries m' i) q ≡ value_for cmp (entries m i) q
      pub increasing : IsIncreasing cmp (entries m i)
      pub beside : ChangesAt m i m'
      pub sizes : OnOk result (node_sizes m' i ≡ sizes_with most cmp (table m) (handle m i) k)
      pub account : OnOk result (Takes (need_of most cmp (table m) (handle m i) k) (table m) (table m'))
      pub full : (result ≡ Err Full) ↔ IsTooMany (need_of most cmp (table m) (handle m i) k) (table m)
      pub memory : result ≡ Err Memory → NeedsGrowth (need_of most cmp (table m) (handle m i) k) (table m)
      pub succeeds : need_of most cmp (table m) (handle m i) k ≤ free_of (table m) → IsOk result
      pub absent : OnErr result (value_for cmp (entries m i) k ≡ None)
      pub refused : OnErr result (m' ≡ m)
      pub room : (lists most_entries : ℕ) → StaysWithin cmp lists most_entries m i k → HasRoom most lists most_entries (table m) → IsOk result
      pub never_full : (lists most_entries : ℕ) → StaysWithin cmp lists most_entries m i k → MayHave most lists most_entries (table m) → result ≢ Err Full

    -- the entries of j whose key is absent in i
    abbrev pub new_in : Indexed K X C → ℕ → ℕ → List (K × X)
    new_in m i j = kept_from cmp false (entries m j) (entries m i)

    -- The entries of j whose key is absent in i were put there, and whether there was one is answered. A single one was inserted. Where there
    -- were more, the tree of i is a packed one, which was made beside the old one; where there was none, nothing changed. Or the call was
    -- refused, and nothing changed.
    pub record UnitesAt (m : Indexed K X C) (i j : ℕ) (result : Result Bool OutOfMemory) (m' : Indexed K X C) : Type 0 where
      pub united : OnOk result (entries m' i ≡ united cmp (entries m i) (entries m j))
      pub changed : IfOk result (λ changed. changed ≡ not (are_among cmp (entries m j) (entries m i)))
      pub found : OnOk result ((q : K) → value_for cmp (entries m' i) q ≡ (if is_present cmp (entries m i) q then value_for cmp (entries m i) q else value_for cmp (entries m j) q))
      pub more : result ≡ Ok true → length (entries m i) < length (entries m' i)
      pub itself : i ≡ j → result ≡ Ok false
      pub inserted : (e : K × X) → new_in m i j ≡ e ∷ [] → InsertsAt m i e.0 e.1 (as_inserted result) m'
      pub packed : 1 < length (new_in m i j) → OnOk result (ArePacked most (node_sizes m' i))
      pub nodes : 1 < length (new_in m i j) → OnOk result (node_count (node_sizes m' i) ≡ need_of_union most cmp (table m) (handle m i) (handle m j))
      pub account : 1 < length (new_in m i j) → OnOk result (TakesAndGives (need_of_union most cmp (table m) (handle m i) (handle m j)) (node_sizes m i) (table m) (table m'))
      pub beside : ChangesAt m i m'
      pub same : result ≡ Ok false → m' ≡ m
      pub full : (result ≡ Err Full) ↔ IsTooMany (need_of_union most cmp (table m) (handle m i) (handle m j)) (table m)
      pub memory : result ≡ Err Memory → NeedsGrowth (need_of_union most cmp (table m) (handle m i) (handle m j)) (table m)
      pub succeeds : need_of_union most cmp (table m) (handle m i) (handle m j) ≤ free_of (table m) → IsOk result
      pub refused : OnErr result (m' ≡ m)

    -- The entries of i whose key is in j stay, or those whose key is not, as `present` says, with their values. The others were removed, in the
    -- order of their keys, and whether there was one is answered; where there was none, nothing changed. No node was taken.
    pub record KeepsFromAt (present : Bool) (m : Indexed K X C) (i j : ℕ) (result : Bool) (m' : Indexed K X C) : Type 0 where
      pub kept : entries m' i ≡ kept_from cmp present (entries m i) (entries m j)
      pub changed : result ≡ not (keeps_all cmp present (entries m i) (entries m j))
      pub found : (q : K) → value_for cmp (entries m' i) q ≡ (if fits present (is_present cmp (entries m j) q) then value_for cmp (entries m i) q else None)
      pub sizes : entries m' i ≢ [] → node_sizes m' i ≡ sizes_by most 0 (kept_of cmp present (entries m i) (entries m j)) (node_sizes m i)
      pub none : entries m' i ≡ [] → node_sizes m' i ≡ []
      pub beside : ChangesAt m i m'
      pub account : Gives (node_sizes m i) (node_sizes m' i) (table m) (table m')
      pub fewer : result ≡ true → length (entries m' i) < length (entries m i)
      pub same : result ≡ false → m' ≡ m
      pub itself : present ≡ true → i ≡ j → result ≡ false
      pub itself_gone : present ≡ false → i ≡ j → entries m' i ≡ []

    -- the entries of i whose key is in j stay
    abbrev pub IntersectsAt : Indexed K X C → ℕ → ℕ → Bool → Indexed K X C → Type 0
    IntersectsAt m i j result m' = KeepsFromAt true m i j result m'

    -- the entries of i whose key is not in j stay
    abbrev pub SubtractsAt : Indexed K X C → ℕ → ℕ → Bool → Indexed K X C → Type 0
    SubtractsAt m i j result m' = KeepsFromAt false m i j result m'

    -- the number of nodes that a split of i at k takes: as many as nodes of i have entries or children on both sides
    abbrev pub split_need : Indexed K X C → ℕ → K → ℕ
    split_need m i k = severed (place cmp (entries m i) k) (node_sizes m i)

    -- The entries of i whose keys are not less than k went to j, in a tree of their own, and the list of j ended. Where i and j are one, it has
    -- the entries that went. Nodes were taken for the new tree, and then nodes were freed. Or the call was refused, and nothing changed.
    pub record SplitsOffAt (m : Indexed K X C) (i : ℕ) (k : K) (j : ℕ) (result : Result (Unit {0}) OutOfMemory) (m' : Indexed K X C) : Type 0 where
      pub front : OnOk result (i ≢ j → entries m' i ≡ take (place cmp (entries m i) k) (entries m i))
      pub tail : OnOk result (entries m' j ≡ drop (place cmp (entries m i) k) (entries m i))
      pub sizes : OnOk result (i ≢ j → node_sizes m' i ≡ truncation (place cmp (entries m i) k) (length (entries m i) - place cmp (entries m i) k) (node_sizes m i))
      pub tail_sizes : OnOk result (node_sizes m' j ≡ detached most (place cmp (entries m i) k) (node_sizes m i))
      pub found : OnOk result (i ≢ j → (q : K) → value_for cmp (entries m' i) q ≡ (if is_lt (cmp q k) then value_for cmp (entries m i) q else None))
      pub tail_found : OnOk result ((q : K) → value_for cmp (entries m' j) q ≡ (if is_lt (cmp q k) then None else value_for cmp (entries m i) q))
      pub others : (q : ℕ) → q ≢ i → q ≢ j → entries m' q ≡ entries m q
      pub other_sizes : (q : ℕ) → q ≢ i → q ≢ j → node_sizes m' q ≡ node_sizes m q
      pub same_count : count m' ≡ count m
      pub same_comparator : comparator m' ≡ comparator m
      pub same_limit : limit_of (table m') ≡ limit_of (table m)
      pub same_memory : memory m' ≡ memory m
      pub slots : OnOk result (slots_of (table m') ≡ slots_of (table m) + (split_need m i k - free_of (table m)))
      pub free : OnOk result (i ≢ j → free_of (table m') + node_count (node_sizes m' i) + node_count (node_sizes m' j)
          ≡ (free_of (table m) - split_need m i k) + split_need m i k + node_count (node_sizes m i) + node_count (node_sizes m j))
      pub free_one : OnOk result (i ≡ j → free_of (table m') + node_count (node_sizes m' j) ≡ (free_of (table m) - split_need m i k) + split_need m i k + node_count (node_sizes m i))
      pub growth : OnOk result (GrowsFor (split_need m i k) (table m) (table m'))
      pub few : split_need m i k ≤ length (node_sizes m i)
      pub full : (result ≡ Err Full) ↔ IsTooMany (split_need m i k) (table m)
      pub memory : result ≡ Err Memory → NeedsGrowth (split_need m i k) (table m)
      pub enough : split_need m i k ≤ free_of (table m) → IsOk result
      pub whole : place cmp (entries m i) k ≡ 0 → IsOk result
      pub none : length (entries m i) ≤ place cmp (entries m i) k → IsOk result
      pub refused : OnErr result (m' ≡ m)

    -- The entries of i whose keys are within both bounds were removed, and whether there was one is answered; where there was none, nothing
    -- changed. No node was taken.
    pub record RemovesBetweenAt (lo hi : Bound K) (m : Indexed K X C) (i : ℕ) (result : Bool) (m' : Indexed K X C) : Type 0 where
      pub removed : entries m' i ≡ entries_outside cmp lo hi (entries m i)
      pub changed : result ≡ nat_lt 0 (length (entries_between cmp lo hi (entries m i)))
      pub found : (q : K) → value_for cmp (entries m' i) q ≡ (if is_between cmp lo hi q then None else value_for cmp (entries m i) q)
      pub fewer : result ≡ true → length (entries m' i) < length (entries m i)
      pub sizes : node_sizes m' i ≡ sizes_outside most lo hi (start_place cmp lo (entries m i)) (length (entries_between cmp lo hi (entries m i))) (node_sizes m i)
      pub beside : ChangesAt m i m'
      pub account : Gives (node_sizes m i) (node_sizes m' i) (table m) (table m')
      pub same : result ≡ false → m' ≡ m

    -- the key k was removed from i, and its value is answered
    pub record RemovesAt (m : Indexed K X C) (i : ℕ) (k : K) (result : Option X) (m' : Indexed K X C) : Type 0 where
      pub value : result ≡ value_for cmp (entries m i) k
      pub cut : entries m' i ≡ cut cmp (entries m i) k
      pub gone : value_for cmp (entries m' i) k ≡ None
      pub others : (q : K) → is_eq (cmp k q) ≡ false → value_for cmp (entries m' i) q ≡ value_for cmp (entries m i) q
      pub increasing : IsIncreasing cmp (entries m i)
      pub beside : ChangesAt m i m'
      pub sizes : node_sizes m' i ≡ sizes_without most cmp (table m) (handle m i) k
      pub account : Gives (node_sizes m i) (node_sizes m' i) (table m) (table m')
      pub absent : result ≡ None → m' ≡ m

    -- the number of free slots that an insertion of k into the list of j takes
    abbrev pub put_need : Indexed K X C → ℕ → K → ℕ
    put_need m j k = need_of most cmp (table m) (handle m j) k

    -- The value of the key k of i was inserted at k of j, and k removed from i; whether it was present is answered. Where it was not, or both are
    -- one index, nothing changed. Or the insertion was refused, and nothing changed.
    pub record MovesAt (m : Indexed K X C) (i : ℕ) (k : K) (j : ℕ) (result : Result Bool OutOfMemory) (m' : Indexed K X C) : Type 0 where
      pub found : IfOk result (λ moved. moved ≡ is_present cmp (entries m i) k)
      pub put : i ≢ j → (x : X) → value_for cmp (entries m i) k ≡ Some x → OnOk result (entries m' j ≡ put cmp (entries m j) k x)
      pub put_sizes : i ≢ j → is_present cmp (entries m i) k ≡ true → OnOk result (node_sizes m' j ≡ sizes_with most cmp (table m) (handle m j) k)
      pub cut : i ≢ j → OnOk result (entries m' i ≡ cut cmp (entries m i) k)
      pub cut_sizes : i ≢ j → OnOk result (node_sizes m' i ≡ sizes_without most cmp (table m) (handle m i) k)
      pub arrived : i ≢ j → OnOk result ((x : X) → value_for cmp (entries m i) k ≡ Some x → value_for cmp (entries m' j) k ≡ Some x)
      pub gone : i ≢ j → OnOk result (value_for cmp (entries m' i) k ≡ None)
      pub other_keys : (n : ℕ) (q : K) → is_eq (cmp k q) ≡ false → value_for cmp (entries m' n) q ≡ value_for cmp (entries m n) q
      pub others : (q : ℕ) → q ≢ i → q ≢ j → entries m' q ≡ entries m q
      pub other_sizes : (q : ℕ) → q ≢ i → q ≢ j → node_sizes m' q ≡ node_sizes m q
      pub same_count : count m' ≡ count m
      pub same_comparator : comparator m' ≡ comparator m
      pub same_limit : limit_of (table m') ≡ limit_of (table m)
      pub same_memory : memory m' ≡ memory m
      pub same_one : i ≡ j → m' ≡ m
      pub absent : is_present cmp (entries m i) k ≡ false → m' ≡ m
      pub slots : i ≢ j → is_present cmp (entries m i) k ≡ true → OnOk result (slots_of (table m') ≡ slots_of (table m) + (put_need m j k - free_of (table m)))
      pub free : i ≢ j → is_present cmp (entries m i) k ≡ true → OnOk result (free_of (table m') + node_count (node_sizes m' i) ≡ (free_of (table m) - put_need m j k) + node_count (node_sizes m i))
      pub growth : i ≢ j → is_present cmp (entries m i) k ≡ true → OnOk result (GrowsFor (put_need m j k) (table m) (table m'))
      pub full : (result ≡ Err Full) ↔ ((i ≢ j) × (is_present cmp (entries m i) k ≡ true) × IsTooMany (put_need m j k) (table m))
      pub memory : result ≡ Err Memory → (i ≢ j) × (is_present cmp (entries m i) k ≡ true) × NeedsGrowth (put_need m j k) (table m)
      pub succeeds : put_need m j k ≤ free_of (table m) → IsOk result
      pub room : (lists most_entries : ℕ) → StaysWithin cmp lists most_entries m j k → HasRoom most lists most_entries (table m) → IsOk result
      pub never_full : (lists most_entries : ℕ) → StaysWithin cmp lists most_entries m j k → MayHave most lists most_entries (table m) → result ≢ Err Full
      pub refused : OnErr result (m' ≡ m)

    -- the value of the key k of i is answered: the one that was there, and nothing changed, or x, which was
    -- inserted; or the insertion was refused, and nothing changed
    pub record GetsOrInsertsAt (m : Indexed K X C) (i : ℕ) (k : K) (x : X) (result : Result X OutOfMemory) (m' : Indexed K X C) : Type 0 where
      pub value : IfOk result (λ v. v ≡ unwrap_or (value_for cmp (entries m i) k) x)
      pub found : IfOk result (λ v. value_for cmp (entries m' i) k ≡ Some v)
      pub others : (q : K) → is_eq (cmp k q) ≡ false → value_for cmp (entries m' i) q ≡ value_for cmp (entries m i) q
      pub present : IsSome (value_for cmp (entries m i) k) → IsOk result
      pub stays : IsSome (value_for cmp (entries m i) k) → m' ≡ m
      pub absent : value_for cmp (entries m i) k ≡ None → InsertsAt m i k x (as_inserted result) m'
      pub room : (lists most_entries : ℕ) → StaysWithin cmp lists most_entries m i k → HasRoom most lists most_entries (table m) → IsOk result
      pub never_full : (lists most_entries : ℕ) → StaysWithin cmp lists most_entries m i k → MayHave most lists most_entries (table m) → result ≢ Err Full

    -- the value of the key k of i became what a call of q with it returned, as `UpdatesAt` says; or x was inserted at the absent key, as
    -- `InsertsAt` says. The value that the key has then is answered; or the insertion was refused, and nothing changed
    pub record UpdatesOrInsertsAt {F : Type 0} (g : Once F (X × Unit {0}) X) (m : Indexed K X C) (i : ℕ) (k : K) (x : X) (q : F) (result : Result X OutOfMemory) (m' : Indexed K X C) : Type 0 where
      pub present : IsSome (value_for cmp (entries m i) k) → IsOk result
      pub updated : IsSome (value_for cmp (entries m i) k) → IfOk result (λ w. UpdatesAt g cmp m i k q (Some w) m')
      pub absent : value_for cmp (entries m i) k ≡ None → InsertsAt m i k x (as_inserted result) m'
      pub value : value_for cmp (entries m i) k ≡ None → IfOk result (λ w. w ≡ x)
      pub found : IfOk result (λ w. value_for cmp (entries m' i) k ≡ Some w)
      pub others : (j : K) → is_eq (cmp k j) ≡ false → value_for cmp (entries m' i) j ≡ value_for cmp (entries m i) j
      pub room : (lists most_entries : ℕ) → StaysWithin cmp lists most_entries m i k → HasRoom most lists most_entries (table m) → IsOk result
      pub never_full : (lists most_entries : ℕ) → StaysWithin cmp lists most_entries m i k → MayHave most lists most_entries (table m) → result ≢ Err Full
