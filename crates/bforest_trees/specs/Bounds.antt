-- The part of a list of entries within bounds of its keys.
use Rattle.std.specs.List.{filter, last_or}
use Rattle.std.specs.Ordering.{is_gt, is_le, is_lt}
use Rattle.std.specs.Prelude.{Bool, List, None, Option, count_by, false, not, slice_get, true, ◌&&◌, ℕ}
use Rattle.std.specs.declared.cmp.Ordering.{Ordering}
use Rattle.std.specs.declared.ops.Bound.TheVariants.{Excluded, Included, Unbounded}
use Rattle.std.specs.declared.ops.Bound.{Bound}

module _ {K : Type 0} (cmp : K → K → Ordering) where
  -- whether a key is inside a start bound
  abbrev pub is_from_start : Bound K → K → Bool
  is_from_start (Included a) k = is_le (cmp a k)
  is_from_start (Excluded a) k = is_lt (cmp a k)
  is_from_start Unbounded k = true

  -- whether a key is outside an end bound
  abbrev pub is_past_end : Bound K → K → Bool
  is_past_end (Included b) k = is_lt (cmp b k)
  is_past_end (Excluded b) k = is_le (cmp b k)
  is_past_end Unbounded k = false

  -- whether a key is within both bounds
  abbrev pub is_between : Bound K → Bound K → K → Bool
  is_between lo hi k = is_from_start lo k && not (is_past_end hi k)

-- the start bound of what an end bound leaves out
abbrev pub start_behind : {K : Type 0} → Bound K → Bound K
start_behind (Included k) = Excluded k
start_behind (Excluded k) = Included k
start_behind Unbounded = Unbounded

module _ {K X : Type 0} (cmp : K → K → Ordering) where
  -- the entries whose keys are within both bounds
  abbrev pub entries_between : Bound K → Bound K → List (K × X) → List (K × X)
  entries_between lo hi es = filter (λ e. is_from_start cmp lo e.0 && not (is_past_end cmp hi e.0)) es

  -- the entries whose keys are not within both bounds
  abbrev pub entries_outside : Bound K → Bound K → List (K × X) → List (K × X)
  entries_outside lo hi es = filter (λ e. not (is_between cmp lo hi e.0)) es

  -- the last of the entries whose keys are not greater than k
  abbrev pub entry_at_most : List (K × X) → K → Option (K × X)
  entry_at_most es k = last_or None (filter (λ e. not (is_gt (cmp e.0 k))) es)

  -- the first of the entries whose keys are not less than k
  abbrev pub entry_at_least : List (K × X) → K → Option (K × X)
  entry_at_least es k = slice_get (filter (λ e. not (is_lt (cmp e.0 k))) es) 0

  -- the number of keys before a start bound: the place where a range begins
  abbrev pub start_place : Bound K → List (K × X) → ℕ
  start_place lo es = count_by (λ e. not (is_from_start cmp lo e.0)) es

  -- the number of keys not past an end bound: the place where a range ends
  abbrev pub end_place : Bound K → List (K × X) → ℕ
  end_place hi es = count_by (λ e. not (is_past_end cmp hi e.0)) es
