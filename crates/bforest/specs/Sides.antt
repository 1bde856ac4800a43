-- Two sets that are read side by side: the keys that are left of each, and those that each iterator over them has left. No public clause
-- cites this module.
use Rattle.bforest.specs.Set.{with_unit}
use Rattle.bforest.specs.Union.{kept_from, united, unshared}
use Rattle.bforest_nodes.specs.Entries.{IsIncreasing}
use Rattle.bforest_trees.specs.Merge.{front_order}
use Rattle.std.specs.Map.{keys_of}
use Rattle.std.specs.Ordering.{is_eq, is_lt}
use Rattle.std.specs.Prelude.{List, None, Option, Some, [], false, if◌then◌else◌, length, true, ◌+◌, ◌<◌, ◌∷◌, ◌≡◌}
use Rattle.std.specs.declared.cmp.Ordering.{Ordering}

-- the keys that are left, of which the first was read already
abbrev pub ahead : {K : Type 0} → Option K → List K → List K
ahead None behind = []
ahead (Some key) behind = key ∷ behind

-- the keys that are left of two sets, and the comparator that orders them
pub record Sides (K C : Type 0) : Type 0 where
  pub first : List K
  pub second : List K
  pub comparator : C

module _ {K C : Type 0} (order : C → K → K → Ordering) where
  -- how the first keys compare: where one set has none left, that of the other comes first
  abbrev pub front : Sides K C → Option Ordering
  front s = front_order (order s.comparator) (with_unit s.first) (with_unit s.second)

  -- the keys of the union
  abbrev pub in_either : Sides K C → List K
  in_either s = keys_of (united (order s.comparator) (with_unit s.first) (with_unit s.second))

  -- the keys of the first set that the second has too
  abbrev pub in_both : Sides K C → List K
  in_both s = keys_of (kept_from (order s.comparator) true (with_unit s.first) (with_unit s.second))

  -- the keys of the first set that the second does not have
  abbrev pub in_first : Sides K C → List K
  in_first s = keys_of (kept_from (order s.comparator) false (with_unit s.first) (with_unit s.second))

  -- the keys of the first set that the second does not have, and those of the second that the first does not
  abbrev pub in_one : Sides K C → List K
  in_one s = keys_of (unshared (order s.comparator) (with_unit s.first) (with_unit s.second))

  -- both sets increase
  pub record Increase (s : Sides K C) : Type 0 where
    pub up : IsIncreasing (order s.comparator) (with_unit s.first)
    pub second_up : IsIncreasing (order s.comparator) (with_unit s.second)

  -- the lesser of the first keys was taken off, or both where they are equal; what that leaves of each list
  pub record Takes (old : Sides K C) (found : Ordering) (key : K) (new : Sides K C) : Type 0 where
    pub either : in_either old ≡ key ∷ in_either new
    pub both : in_both old ≡ (if is_eq found then key ∷ in_both new else in_both new)
    pub alone : in_first old ≡ (if is_lt found then key ∷ in_first new else in_first new)
    pub one : in_one old ≡ (if is_eq found then in_one new else key ∷ in_one new)
    pub fewer : length new.first + length new.second < length old.first + length old.second

  -- a step takes a key off, unless none is left
  abbrev pub Steps : Sides K C → Option (Ordering × K) → Sides K C → Type 0
  Steps old None new = (old.first ≡ []) × (old.second ≡ []) × (new ≡ old)
  Steps old (Some step) new = Takes old step.0 step.1 new
