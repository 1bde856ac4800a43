-- What a call that may change one tree returns and leaves: one record per call, which every such call of a
-- map cites.
use Rattle.bforest_core.specs.Change.{node_count, severed}
use Rattle.bforest_core.specs.Packed.{ArePacked, fewest}
use Rattle.bforest_core.specs.Sizes.{IsFitFor, detached, shrink, truncated, without_next}
use Rattle.bforest_core.specs.declared.pool.OutOfMemory.TheVariants.{Full, Memory}
use Rattle.bforest_core.specs.declared.pool.OutOfMemory.{OutOfMemory}
use Rattle.bforest_nodes.specs.Entries.{IsIncreasing, cut, is_present, place, put, value_for}
use Rattle.bforest_trees.specs.Bounds.{entries_between, entries_outside, is_between, start_place}
use Rattle.bforest_trees.specs.Forest.{Becomes, Forest, Gives, GrowsFor, IsFree, IsLive, IsTooMany, Keeps, NeedsGrowth, Takes, TakesAndGives, free_of, limit_of, list_at, list_of, memory_of, need_of, nodes_of, sizes_at, sizes_of, sizes_with, sizes_without, slots_of}
use Rattle.bforest_trees.specs.Retain.{Retains, sizes_by}
use Rattle.bforest_trees.specs.Shift.{Rekeys}
use Rattle.bforest_trees.specs.Union.{are_among, fits, kept_from, kept_of, keeps_all, new_to, united}
use Rattle.std.specs.Fn.{FnOnceReturns, Once}
use Rattle.std.specs.List.{sum_by}
use Rattle.std.specs.Prelude.{Bool, Err, IfOk, IfSome, IsOk, IsSome, List, None, Ok, OnErr, OnOk, Option, Result, Some, [], drop, false, if◌then◌else◌, length, nat_le, nat_lt, not, remove, slice_get, take, true, unwrap_or, zero, suc, ◌++◌, ◌∷◌, ◌+◌, ◌-◌, ◌<◌, ◌↔◌, ◌≡◌, ◌≢◌, ◌≤◌, ℕ}
use Rattle.std.specs.Cmp.{IsTotalOrder}
use Rattle.std.specs.Ordering.{is_eq, is_lt}
use Rattle.std.specs.declared.cmp.Ordering.{Ordering}
use Rattle.std.specs.declared.ops.Bound.TheVariants.{Excluded, Included, Unbounded}
use Rattle.std.specs.declared.ops.Bound.{Bound}

-- the sizes of a tree after n removals at one place, where a leaf has at most `most` entries
abbrev pub removals : ℕ → ℕ → ℕ → List (List ℕ) → List (List ℕ)
removals most place zero sizes = sizes
removals most place (suc n) sizes = shrink most place (removals most place n sizes)

-- the index of the leaf that has the entry at a place, from the sizes of the leaves
abbrev pub leaf_index : ℕ → List ℕ → ℕ
leaf_index place [] = 0
leaf_index place (size ∷ after) = if nat_lt place size then 0 else suc (leaf_index (place - size) after)

-- how many of these leaves, from the first on, have so many entries together at most
abbrev pub leaves_within : ℕ → List ℕ → ℕ
leaves_within n [] = 0
leaves_within n (size ∷ after) = if nat_le size n then suc (leaves_within (n - size) after) else 0

-- how many leaves behind the leaf of a place have no other entries than some of the n from that place on
abbrev pub whole_leaves : ℕ → ℕ → List ℕ → ℕ
whole_leaves place n [] = 0
whole_leaves place n (size ∷ after) =
    if nat_lt place size then leaves_within ((place + n) - size) after else whole_leaves (place - size) n after

-- the sizes of a tree after so many leaves behind the one with this index went, one after another
abbrev pub without_leaves : ℕ → ℕ → List (List ℕ) → List (List ℕ)
without_leaves index zero sizes = sizes
without_leaves index (suc count) sizes = without_next index (without_leaves index count sizes)

-- The sizes of a tree after n entries from a place on were removed: first the leaves behind the leaf of the place all of whose entries go, and
-- then the other entries, one after another
abbrev pub without_range : ℕ → ℕ → ℕ → List (List ℕ) → List (List ℕ)
without_range most place zero sizes = sizes
without_range most place (suc n) [] = []
without_range most place (suc n) (leaves ∷ levels) =
    let index = leaf_index place leaves in let count = whole_leaves place (suc n) leaves in
    removals most place (suc n - sum_by (λ size. size) (take count (drop (suc index) leaves))) (without_leaves index count (leaves ∷ levels))

-- the sizes of a tree after the last n entries were removed, from this place on, with the nodes that held them alone
abbrev pub truncation : ℕ → ℕ → List (List ℕ) → List (List ℕ)
truncation place zero sizes = sizes
truncation place (suc n) sizes = truncated place sizes

-- the sizes of a tree after n entries up to an end bound were removed, of which the first is at this place: all at once where the start has no
-- bound, else by leaves
abbrev pub sizes_behind : {K : Type 0} → ℕ → Bound K → ℕ → ℕ → List (List ℕ) → List (List ℕ)
sizes_behind most Unbounded place n sizes = detached most n sizes
sizes_behind most (Included k) place n sizes = without_range most place n sizes
sizes_behind most (Excluded k) place n sizes = without_range most place n sizes

-- the sizes of a tree after n entries within two bounds were removed, of which the first is at this place: all at once where the end has no bound
abbrev pub sizes_outside : {K : Type 0} → ℕ → Bound K → Bound K → ℕ → ℕ → List (List ℕ) → List (List ℕ)
sizes_outside most lo Unbounded place n sizes = truncation place n sizes
sizes_outside most lo (Included k) place n sizes = sizes_behind most lo place n sizes
sizes_outside most lo (Excluded k) place n sizes = sizes_behind most lo place n sizes

module _ {K X : Type 0} where
  -- the handle keeps its number exactly where the tree keeps its height
  abbrev pub SameLevels : Forest K X → Option ℕ → Forest K X → Option ℕ → Type 0
  SameLevels f h f' h' = (h' ≡ h) ↔ (length (sizes_of f' h') ≡ length (sizes_of f h))

  -- The tree of h lost levels, or none, and no node was taken. A number that the handle lost is free, and so is each that was free; the number
  -- that it has is not
  pub record Lowers (f : Forest K X) (h : Option ℕ) (f' : Forest K X) (h' : Option ℕ) : Type 0 where
    pub fewer : length (sizes_of f' h') ≤ length (sizes_of f h)
    pub same_levels : SameLevels f h f' h'
    pub freed : h' ≢ h → IfSome h (λ n. IsFree f' n)
    pub free : (n : ℕ) → IsFree f n → IsFree f' n
    pub used : IfSome h' (λ n. ¬ IsFree f' n)

  -- the entry at a place of h was removed, where a leaf has at most `most` entries; at the end nothing changed
  pub record RemovesAt (most : ℕ) (f : Forest K X) (h : Option ℕ) (place : ℕ) (f' : Forest K X) (h' : Option ℕ) : Type 0 where
    pub removed : Becomes f h f' h' (remove (list_of f h) place)
    pub sizes : sizes_of f' h' ≡ (if nat_lt place (length (list_of f h)) then shrink most place (sizes_of f h) else sizes_of f h)
    pub same_levels : SameLevels f h f' h'
    pub account : Gives (sizes_of f h) (sizes_of f' h') f f'
    pub end_forest : length (list_of f h) ≤ place → f' ≡ f
    pub end_handle : length (list_of f h) ≤ place → h' ≡ h

  -- The entries from a place of h's list on were removed, with the nodes that held them alone, and whether there was one is returned; where
  -- there was none, nothing changed. No node was taken.
  pub record CutsFrom (f : Forest K X) (h : Option ℕ) (place : ℕ) (result : Bool) (f' : Forest K X) (h' : Option ℕ) : Type 0 where
    pub removed : Becomes f h f' h' (take place (list_of f h))
    pub changed : result ≡ nat_lt place (length (list_of f h))
    pub sizes : sizes_of f' h' ≡ truncation place (length (list_of f h) - place) (sizes_of f h)
    pub same_levels : SameLevels f h f' h'
    pub account : Gives (sizes_of f h) (sizes_of f' h') f f'
    pub same_forest : result ≡ false → f' ≡ f
    pub same_handle : result ≡ false → h' ≡ h

  -- The entries of h's list in front of a place were removed, with the nodes that are left over, and whether there was one is returned; where
  -- there was none, nothing changed. No node was taken.
  pub record CutsTo (most : ℕ) (f : Forest K X) (h : Option ℕ) (place : ℕ) (result : Bool) (f' : Forest K X) (h' : Option ℕ) : Type 0 where
    pub removed : Becomes f h f' h' (drop place (list_of f h))
    pub changed : result ≡ nat_lt 0 place
    pub sizes : sizes_of f' h' ≡ detached most place (sizes_of f h)
    pub same_levels : SameLevels f h f' h'
    pub account : Gives (sizes_of f h) (sizes_of f' h') f f'
    pub same_forest : result ≡ false → f' ≡ f
    pub same_handle : result ≡ false → h' ≡ h

  -- The entries from a place of h's list on went to a tree of their own, whose handle is returned, where a leaf has at most `most` entries: all
  -- of h's tree where none is in front of them. As many nodes were taken as had entries or children on both sides, and then nodes were freed.
  -- Or the call was refused, and nothing changed.
  pub record SplitsAt (most : ℕ) (f : Forest K X) (h : Option ℕ) (place : ℕ) (result : Result (Option ℕ) OutOfMemory) (f' : Forest K X) (h' : Option ℕ) : Type 0 where
    pub front : OnOk result (list_of f' h' ≡ take place (list_of f h))
    pub tail : IfOk result (λ t. list_of f' t ≡ drop place (list_of f h))
    pub sizes : OnOk result (sizes_of f' h' ≡ truncation place (length (list_of f h) - place) (sizes_of f h))
    pub tail_sizes : IfOk result (λ t. sizes_of f' t ≡ detached most place (sizes_of f h))
    pub same_levels : OnOk result (SameLevels f h f' h')
    pub live : IsLive f' h'
    pub tail_live : IfOk result (λ t. IsLive f' t)
    pub apart : IfOk result (λ t. t ≡ h' → t ≡ None)
    pub fit : OnOk result (IsFitFor most (length (list_of f' h')) (sizes_of f' h'))
    pub tail_fit : IfOk result (λ t. IsFitFor most (length (list_of f' t)) (sizes_of f' t))
    pub leaves : IfOk result (λ t. h ≢ h' → h ≢ t → list_of f' h ≡ [])
    pub leaves_sizes : IfOk result (λ t. h ≢ h' → h ≢ t → sizes_of f' h ≡ [])
    pub fresh : h' ≢ h → list_of f h' ≡ []
    pub fresh_sizes : h' ≢ h → sizes_of f h' ≡ []
    pub tail_fresh : place ≢ 0 → IfOk result (λ t. list_of f t ≡ [])
    pub tail_fresh_sizes : place ≢ 0 → IfOk result (λ t. sizes_of f t ≡ [])
    pub others : IfOk result (λ t. (n : ℕ) → Some n ≢ h → Some n ≢ h' → Some n ≢ t → list_at f' n ≡ list_at f n)
    pub others_sizes : IfOk result (λ t. (n : ℕ) → Some n ≢ h → Some n ≢ h' → Some n ≢ t → sizes_at f' n ≡ sizes_at f n)
    pub limit : limit_of f' ≡ limit_of f
    pub slots : OnOk result (slots_of f' ≡ slots_of f + (severed place (sizes_of f h) - free_of f))
    pub free : IfOk result (λ t. free_of f' + nodes_of f' h' + nodes_of f' t ≡ (free_of f - severed place (sizes_of f h)) + severed place (sizes_of f h) + nodes_of f h)
    pub growth : OnOk result (GrowsFor (severed place (sizes_of f h)) f f')
    pub few : severed place (sizes_of f h) ≤ length (sizes_of f h)
    pub full : (result ≡ Err Full) ↔ IsTooMany (severed place (sizes_of f h)) f
    pub memory : result ≡ Err Memory → NeedsGrowth (severed place (sizes_of f h)) f
    pub enough : severed place (sizes_of f h) ≤ free_of f → IsOk result
    pub whole : place ≡ 0 → (result ≡ Ok h) × (f' ≡ f) × (h' ≡ None)
    pub none : length (list_of f h) ≤ place → result ≡ Ok None
    pub none_forest : result ≡ Ok None → f' ≡ f
    pub none_handle : result ≡ Ok None → h' ≡ h
    pub refused_forest : OnErr result (f' ≡ f)
    pub refused_handle : OnErr result (h' ≡ h)

  -- the entry at a place of h was removed and is returned, where a leaf has at most `most` entries; at the end
  -- none is, and nothing changed
  pub record Pops (most : ℕ) (f : Forest K X) (h : Option ℕ) (place : ℕ) (result : Option (K × X)) (f' : Forest K X) (h' : Option ℕ) : Type 0 where
    pub entry : result ≡ slice_get (list_of f h) place
    pub removed : RemovesAt most f h place f' h'
    pub gone : {order : K → K → Ordering} → IsTotalOrder order → IsIncreasing order (list_of f h) → IfSome result (λ e. value_for order (list_of f' h') e.0 ≡ None)
    pub others : {order : K → K → Ordering} → IsTotalOrder order → IsIncreasing order (list_of f h) → IfSome result (λ e. (q : K) → is_eq (order e.0 q) ≡ false → value_for order (list_of f' h') q ≡ value_for order (list_of f h) q)
    pub increasing : (order : K → K → Ordering) → IsIncreasing order (list_of f h) → IsIncreasing order (list_of f' h')

  -- f was to have n free slots: all trees stay, and where fewer were free, exactly n are free in f'
  pub record Reserves (f : Forest K X) (n : ℕ) (result : Result (Unit {0}) OutOfMemory) (f' : Forest K X) : Type 0 where
    pub keeps : Keeps f f'
    pub free : OnOk result (n ≤ free_of f')
    pub grown : OnOk result (free_of f < n → free_of f' ≡ n)
    pub slots : OnOk result (slots_of f' ≡ slots_of f + (n - free_of f))
    pub growth : GrowsFor n f f'
    pub enough : n ≤ free_of f → IsOk result
    pub same : n ≤ free_of f → f' ≡ f
    pub refused : OnErr result (f' ≡ f)
    pub full : (result ≡ Err Full) ↔ IsTooMany n f
    pub memory : result ≡ Err Memory → NeedsGrowth n f

  -- a second tree with the list of h, in nodes of the same sizes, was added under the handle that is returned, and the tree of h stays; or
  -- the call was refused, and nothing changed
  pub record Clones (f : Forest K X) (h : Option ℕ) (result : Result (Option ℕ) OutOfMemory) (f' : Forest K X) : Type 0 where
    pub copied : IfOk result (λ h'. Becomes f None f' h' (list_of f h))
    pub sizes : IfOk result (λ h'. sizes_of f' h' ≡ sizes_of f h)
    pub increasing : IfOk result (λ h'. (order : K → K → Ordering) → IsIncreasing order (list_of f h) → IsIncreasing order (list_of f' h'))
    pub stays : IsLive f' h
    pub same_list : list_of f' h ≡ list_of f h
    pub same_sizes : sizes_of f' h ≡ sizes_of f h
    pub account : OnOk result (Takes (nodes_of f h) f f')
    pub full : (result ≡ Err Full) ↔ IsTooMany (nodes_of f h) f
    pub memory : result ≡ Err Memory → NeedsGrowth (nodes_of f h) f
    pub succeeds : nodes_of f h ≤ free_of f → IsOk result
    pub refused : OnErr result (f' ≡ f)

  -- a packed tree of the entries es, in their order, was added under the handle that is returned, where a leaf has at most `most` entries;
  -- or the call was refused, and nothing changed
  pub record Loads (most : ℕ) (f : Forest K X) (es : List (K × X)) (result : Result (Option ℕ) OutOfMemory) (f' : Forest K X) : Type 0 where
    pub loaded : IfOk result (λ h'. Becomes f None f' h' es)
    pub packed : IfOk result (λ h'. ArePacked most (sizes_of f' h'))
    pub fit : IfOk result (λ h'. IsFitFor most (length es) (sizes_of f' h'))
    pub nodes : IfOk result (λ h'. nodes_of f' h' ≡ fewest most (length es))
    pub least : (sizes : List (List ℕ)) → IsFitFor most (length es) sizes → fewest most (length es) ≤ node_count sizes
    pub increasing : IfOk result (λ h'. (order : K → K → Ordering) → IsIncreasing order es → IsIncreasing order (list_of f' h'))
    pub account : OnOk result (Takes (fewest most (length es)) f f')
    pub full : (result ≡ Err Full) ↔ IsTooMany (fewest most (length es)) f
    pub memory : result ≡ Err Memory → NeedsGrowth (fewest most (length es)) f
    pub succeeds : fewest most (length es) ≤ free_of f → IsOk result
    pub refused : OnErr result (f' ≡ f)

  -- the tree of h was made anew, packed, beside the old one, which was freed then; or the call was refused, and nothing changed
  pub record Compacts (most : ℕ) (f : Forest K X) (h : Option ℕ) (result : Result (Unit {0}) OutOfMemory) (f' : Forest K X) (h' : Option ℕ) : Type 0 where
    pub same_list : OnOk result (Becomes f h f' h' (list_of f h))
    pub moved : list_of f h ≢ [] → OnOk result (h' ≢ h)
    pub packed : OnOk result (ArePacked most (sizes_of f' h'))
    pub nodes : OnOk result (nodes_of f' h' ≡ fewest most (length (list_of f h)))
    pub fit : OnOk result (IsFitFor most (length (list_of f h)) (sizes_of f' h'))
    pub account : OnOk result (TakesAndGives (fewest most (length (list_of f h))) (sizes_of f h) f f')
    pub live : IsLive f' h'
    pub increasing : (order : K → K → Ordering) → IsIncreasing order (list_of f h) → IsIncreasing order (list_of f' h')
    pub full : (result ≡ Err Full) ↔ IsTooMany (fewest most (length (list_of f h))) f
    pub memory : result ≡ Err Memory → NeedsGrowth (fewest most (length (list_of f h))) f
    pub succeeds : fewest most (length (list_of f h)) ≤ free_of f → IsOk result
    pub refused_forest : OnErr result (f' ≡ f)
    pub refused_handle : OnErr result (h' ≡ h)

  -- the tree of h was removed
  pub record Clears (f : Forest K X) (h : Option ℕ) (f' : Forest K X) (h' : Option ℕ) : Type 0 where
    pub handle : h' ≡ None
    pub cleared : Becomes f h f' h' []
    pub same_levels : SameLevels f h f' h'
    pub account : Gives (sizes_of f h) [] f f'

  -- q was called on each entry of h; the entries for which it returned true stay, with the values that the calls left
  pub record Filters {F : Type 0} (most : ℕ) (step : F → K → X → Bool → X → F → Type 0) (f : Forest K X) (h : Option ℕ) (q : F) (f' : Forest K X) (h' : Option ℕ) : Type 0 where
    pub kept : Retains step most q (list_of f h) (sizes_of f h) (list_of f' h') (sizes_of f' h')
    pub changed : Becomes f h f' h' (list_of f' h')
    pub same_levels : SameLevels f h f' h'
    pub all_stay : length (list_of f' h') ≡ length (list_of f h) → h' ≡ h
    pub account : Gives (sizes_of f h) (sizes_of f' h') f f'
    pub increasing : (order : K → K → Ordering) → IsIncreasing order (list_of f h) → IsIncreasing order (list_of f' h')

  -- the value of the key k of h became what a call of q with it returned, which is returned, and all nodes stay; or the key is absent, and
  -- nothing changed
  pub record Updates {F : Type 0} (g : Once F (X × Unit {0}) X) (cmp : K → K → Ordering) (f : Forest K X) (h : Option ℕ) (k : K) (q : F) (result : Option X) (f' : Forest K X) (h' : Option ℕ) : Type 0 where
    pub called : IfSome result (λ w. (v : X) × (value_for cmp (list_of f h) k ≡ Some v) × FnOnceReturns g q (v, tt) w)
    pub put : IfSome result (λ w. Becomes f h f' h' (put cmp (list_of f h) k w))
    pub found : IfSome result (λ w. value_for cmp (list_of f' h') k ≡ Some w)
    pub others : (q : K) → is_eq (cmp k q) ≡ false → value_for cmp (list_of f' h') q ≡ value_for cmp (list_of f h) q
    pub handle : h' ≡ h
    pub sizes : sizes_of f' h' ≡ sizes_of f h
    pub slots : slots_of f' ≡ slots_of f
    pub free : free_of f' ≡ free_of f
    pub memory : memory_of f' ≡ memory_of f
    pub absent : result ≡ None → value_for cmp (list_of f h) k ≡ None
    pub absent_forest : result ≡ None → f' ≡ f
    pub live : IsLive f' h'
    pub increasing : (order : K → K → Ordering) → IsIncreasing order (list_of f h) → IsIncreasing order (list_of f' h')

-- the entries of h from a place on got keys that calls with their keys returned, and keep their values; those in front of the place stay, and
-- so do all nodes
pub record Shifts {K X : Type 0} (calls : K → K → Type 0) (place : ℕ) (f : Forest K X) (h : Option ℕ) (f' : Forest K X) : Type 0 where
  pub moved : List (K × X)
  pub rekeys : Rekeys calls (drop place (list_of f h)) moved
  pub shifted : Becomes f h f' h (take place (list_of f h) ++ moved)
  pub sizes : sizes_of f' h ≡ sizes_of f h
  pub slots : slots_of f' ≡ slots_of f
  pub free : free_of f' ≡ free_of f
  pub memory : memory_of f' ≡ memory_of f

-- the result of an insertion of an absent key, from that of a call that returns the value
abbrev pub as_inserted : {A X : Type 0} → Result A OutOfMemory → Result (Option X) OutOfMemory
as_inserted (Ok a) = Ok None
as_inserted (Err refused) = Err refused

-- `most` is the number of entries that a leaf has at most
module _ {K X : Type 0} (most : ℕ) (cmp : K → K → Ordering) where
  -- x was inserted at the key k of h, or replaced the value there, which is returned; or the call was refused,
  -- and nothing changed
  pub record Inserts (f : Forest K X) (h : Option ℕ) (k : K) (x : X) (result : Result (Option X) OutOfMemory) (f' : Forest K X) (h' : Option ℕ) : Type 0 where
    pub ok : IfOk result (λ old. old ≡ value_for cmp (list_of f h) k)
    pub put : OnOk result (Becomes f h f' h' (put cmp (list_of f h) k x))
    pub found : OnOk result (value_for cmp (list_of f' h') k ≡ Some x)
    pub others : (q : K) → is_eq (cmp k q) ≡ false → value_for cmp (list_of f' h') q ≡ value_for cmp (list_of f h) q
    pub sizes : OnOk result (sizes_of f' h' ≡ sizes_with most cmp f h k)
    pub same_number : IfOk result (λ old. IsSome old → h' ≡ h)
    pub same_levels : OnOk result (SameLevels f h f' h')
    pub account : OnOk result (Takes (need_of most cmp f h k) f f')
    pub live : IsLive f' h'
    pub increasing : IsIncreasing cmp (list_of f' h')
    pub full : (result ≡ Err Full) ↔ IsTooMany (need_of most cmp f h k) f
    pub memory : result ≡ Err Memory → NeedsGrowth (need_of most cmp f h k) f
    pub succeeds : need_of most cmp f h k ≤ free_of f → IsOk result
    pub absent : OnErr result (value_for cmp (list_of f h) k ≡ None)
    pub refused_forest : OnErr result (f' ≡ f)
    pub refused_handle : OnErr result (h' ≡ h)

  -- the key k was removed from h, and its value is returned
  pub record Removes (f : Forest K X) (h : Option ℕ) (k : K) (result : Option X) (f' : Forest K X) (h' : Option ℕ) : Type 0 where
    pub value : result ≡ value_for cmp (list_of f h) k
    pub cut : Becomes f h f' h' (cut cmp (list_of f h) k)
    pub gone : value_for cmp (list_of f' h') k ≡ None
    pub others : (q : K) → is_eq (cmp k q) ≡ false → value_for cmp (list_of f' h') q ≡ value_for cmp (list_of f h) q
    pub sizes : sizes_of f' h' ≡ sizes_without most cmp f h k
    pub same_levels : SameLevels f h f' h'
    pub account : Gives (sizes_of f h) (sizes_of f' h') f f'
    pub increasing : IsIncreasing cmp (list_of f' h')
    pub absent_forest : result ≡ None → f' ≡ f
    pub absent_handle : result ≡ None → h' ≡ h

  -- the value of the key k of h is returned: the one that was there, and nothing changed, or x, which was
  -- inserted; or the insertion failed, and nothing changed
  pub record GetsOrInserts (f : Forest K X) (h : Option ℕ) (k : K) (x : X) (result : Result X OutOfMemory) (f' : Forest K X) (h' : Option ℕ) : Type 0 where
    pub value : IfOk result (λ v. v ≡ unwrap_or (value_for cmp (list_of f h) k) x)
    pub found : IfOk result (λ v. value_for cmp (list_of f' h') k ≡ Some v)
    pub others : (q : K) → is_eq (cmp k q) ≡ false → value_for cmp (list_of f' h') q ≡ value_for cmp (list_of f h) q
    pub present : IsSome (value_for cmp (list_of f h) k) → IsOk result
    pub present_forest : IsSome (value_for cmp (list_of f h) k) → f' ≡ f
    pub present_handle : IsSome (value_for cmp (list_of f h) k) → h' ≡ h
    pub absent : value_for cmp (list_of f h) k ≡ None → Inserts f h k x (as_inserted result) f' h'
    pub live : IsLive f' h'
    pub increasing : IsIncreasing cmp (list_of f' h')

  -- the value of the key k of h became what a call of q with it returned, as `Updates` says; or x was inserted at the absent key, as
  -- `Inserts` says. The value that the key has then is returned; or the insertion failed, and nothing changed
  pub record UpdatesOrInserts {F : Type 0} (g : Once F (X × Unit {0}) X) (f : Forest K X) (h : Option ℕ) (k : K) (x : X) (q : F) (result : Result X OutOfMemory) (f' : Forest K X) (h' : Option ℕ) : Type 0 where
    pub present : IsSome (value_for cmp (list_of f h) k) → IsOk result
    pub updated : IsSome (value_for cmp (list_of f h) k) → IfOk result (λ w. Updates g cmp f h k q (Some w) f' h')
    pub absent : value_for cmp (list_of f h) k ≡ None → Inserts f h k x (as_inserted result) f' h'
    pub value : value_for cmp (list_of f h) k ≡ None → IfOk result (λ w. w ≡ x)
    pub found : IfOk result (λ w. value_for cmp (list_of f' h') k ≡ Some w)
    pub others : (q : K) → is_eq (cmp k q) ≡ false → value_for cmp (list_of f' h') q ≡ value_for cmp (list_of f h) q
    pub live : IsLive f' h'
    pub increasing : IsIncreasing cmp (list_of f' h')

  -- the number of nodes that a union takes, by the entries that are new: none, those of an insertion, or those of a packed tree of so many
  abbrev pub need_of_new : Forest K X → Option ℕ → ℕ → List (K × X) → ℕ
  need_of_new f h entries [] = 0
  need_of_new f h entries (e ∷ []) = need_of most cmp f h e.0
  need_of_new f h entries (e ∷ d ∷ es) = fewest most entries

  -- the number of nodes that a union with the list of `other` takes
  abbrev pub need_of_union : Forest K X → Option ℕ → Option ℕ → ℕ
  need_of_union f h other = need_of_new f h (length (united cmp (list_of f h) (list_of f other))) (new_to cmp f h other)

  -- The entries of `other` whose key is absent in h were put there, and whether there was one is returned. A single one was inserted. Where
  -- there were more, the tree is a packed one, which was made beside the old one; where there was none, nothing changed. Or the call was
  -- refused, and nothing changed.
  pub record Unites (f : Forest K X) (h other : Option ℕ) (result : Result Bool OutOfMemory) (f' : Forest K X) (h' : Option ℕ) : Type 0 where
    pub united : OnOk result (Becomes f h f' h' (united cmp (list_of f h) (list_of f other)))
    pub changed : IfOk result (λ changed. changed ≡ not (are_among cmp (list_of f other) (list_of f h)))
    pub found : OnOk result ((q : K) → value_for cmp (list_of f' h') q ≡ (if is_present cmp (list_of f h) q then value_for cmp (list_of f h) q else value_for cmp (list_of f other) q))
    pub more : result ≡ Ok true → length (list_of f h) < length (list_of f' h')
    pub itself : other ≡ h → result ≡ Ok false
    pub inserted : (e : K × X) → new_to cmp f h other ≡ e ∷ [] → Inserts f h e.0 e.1 (as_inserted result) f' h'
    pub moved : 1 < length (new_to cmp f h other) → list_of f h ≢ [] → OnOk result (h' ≢ h)
    pub packed : 1 < length (new_to cmp f h other) → OnOk result (ArePacked most (sizes_of f' h'))
    pub nodes : 1 < length (new_to cmp f h other) → OnOk result (nodes_of f' h' ≡ need_of_union f h other)
    pub fit : 1 < length (new_to cmp f h other) → OnOk result (IsFitFor most (length (list_of f' h')) (sizes_of f' h'))
    pub account : 1 < length (new_to cmp f h other) → OnOk result (TakesAndGives (need_of_union f h other) (sizes_of f h) f f')
    pub same_forest : result ≡ Ok false → f' ≡ f
    pub same_handle : result ≡ Ok false → h' ≡ h
    pub live : IsLive f' h'
    pub increasing : IsIncreasing cmp (list_of f' h')
    pub other_live : IsLive f' other
    pub other_list : list_of f' other ≡ list_of f other
    pub other_sizes : sizes_of f' other ≡ sizes_of f other
    pub full : (result ≡ Err Full) ↔ IsTooMany (need_of_union f h other) f
    pub memory : result ≡ Err Memory → NeedsGrowth (need_of_union f h other) f
    pub succeeds : need_of_union f h other ≤ free_of f → IsOk result
    pub refused_forest : OnErr result (f' ≡ f)
    pub refused_handle : OnErr result (h' ≡ h)

  -- The entries of h whose key is in the list of `other` stay, or those whose key is not, as `present` says, with their values. The others were
  -- removed, in the order of their keys, and whether there was one is returned; where there was none, nothing changed. No node was taken. The
  -- two handles may be the same.
  pub record KeepsFrom (present : Bool) (f : Forest K X) (h other : Option ℕ) (result : Bool) (f' : Forest K X) (h' : Option ℕ) : Type 0 where
    pub kept : Becomes f h f' h' (kept_from cmp present (list_of f h) (list_of f other))
    pub changed : result ≡ not (keeps_all cmp present (list_of f h) (list_of f other))
    pub found : (q : K) → value_for cmp (list_of f' h') q ≡ (if fits present (is_present cmp (list_of f other) q) then value_for cmp (list_of f h) q else None)
    pub sizes : list_of f' h' ≢ [] → sizes_of f' h' ≡ sizes_by most 0 (kept_of cmp present (list_of f h) (list_of f other)) (sizes_of f h)
    pub same_levels : SameLevels f h f' h'
    pub account : Gives (sizes_of f h) (sizes_of f' h') f f'
    pub increasing : IsIncreasing cmp (list_of f' h')
    pub fewer : result ≡ true → length (list_of f' h') < length (list_of f h)
    pub same_forest : result ≡ false → f' ≡ f
    pub same_handle : result ≡ false → h' ≡ h
    pub itself : present ≡ true → other ≡ h → result ≡ false
    pub itself_gone : present ≡ false → other ≡ h → h' ≡ None
    pub other_live : other ≢ h → IsLive f' other
    pub other_list : other ≢ h → list_of f' other ≡ list_of f other
    pub other_sizes : other ≢ h → sizes_of f' other ≡ sizes_of f other

  -- the entries of h whose key is in the list of `other` stay
  abbrev pub Intersects : Forest K X → Option ℕ → Option ℕ → Bool → Forest K X → Option ℕ → Type 0
  Intersects f h other result f' h' = KeepsFrom true f h other result f' h'

  -- the entries of h whose key is not in the list of `other` stay
  abbrev pub Subtracts : Forest K X → Option ℕ → Option ℕ → Bool → Forest K X → Option ℕ → Type 0
  Subtracts f h other result f' h' = KeepsFrom false f h other result f' h'

  -- The entries of h whose keys are within both bounds were removed, and whether there was one is returned; where there was none, nothing
  -- changed. No node was taken.
  pub record RemovesBetween (lo hi : Bound K) (f : Forest K X) (h : Option ℕ) (result : Bool) (f' : Forest K X) (h' : Option ℕ) : Type 0 where
    pub removed : Becomes f h f' h' (entries_outside cmp lo hi (list_of f h))
    pub changed : result ≡ nat_lt 0 (length (entries_between cmp lo hi (list_of f h)))
    pub found : (q : K) → value_for cmp (list_of f' h') q ≡ (if is_between cmp lo hi q then None else value_for cmp (list_of f h) q)
    pub sizes : sizes_of f' h' ≡ sizes_outside most lo hi (start_place cmp lo (list_of f h)) (length (entries_between cmp lo hi (list_of f h))) (sizes_of f h)
    pub same_levels : SameLevels f h f' h'
    pub account : Gives (sizes_of f h) (sizes_of f' h') f f'
    pub increasing : IsIncreasing cmp (list_of f' h')
    pub fewer : result ≡ true → length (list_of f' h') < length (list_of f h)
    pub same_forest : result ≡ false → f' ≡ f
    pub same_handle : result ≡ false → h' ≡ h

  -- the number of nodes that a split at k takes: as many as nodes of h's tree have entries or children on both sides
  abbrev pub need_of_split : Forest K X → Option ℕ → K → ℕ
  need_of_split f h k = severed (place cmp (list_of f h) k) (sizes_of f h)

  -- the entries of h whose keys are not less than k went to a tree of their own, whose handle is returned; or the call was refused, and nothing
  -- changed
  pub record SplitsOff (f : Forest K X) (h : Option ℕ) (k : K) (result : Result (Option ℕ) OutOfMemory) (f' : Forest K X) (h' : Option ℕ) : Type 0 where
    pub parts : SplitsAt most f h (place cmp (list_of f h) k) result f' h'
    pub found : OnOk result ((q : K) → value_for cmp (list_of f' h') q ≡ (if is_lt (cmp q k) then value_for cmp (list_of f h) q else None))
    pub tail_found : IfOk result (λ t. (q : K) → value_for cmp (list_of f' t) q ≡ (if is_lt (cmp q k) then None else value_for cmp (list_of f h) q))
    pub increasing : IsIncreasing cmp (list_of f' h')
    pub tail_increasing : IfOk result (λ t. IsIncreasing cmp (list_of f' t))
