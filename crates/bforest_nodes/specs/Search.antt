-- Where a search in a slice of keys ends.
use Rattle.std.specs.Option.{option_map_or}
use Rattle.std.specs.Ordering.{is_eq, is_gt, is_lt}
use Rattle.std.specs.Prelude.{Bool, Err, List, Ok, Result, count_by, false, if◌then◌else◌, not, slice_get, ℕ}
use Rattle.std.specs.declared.cmp.Ordering.{Ordering}

module _ {K : Type 0} (cmp : K → K → Ordering) where
  -- how many keys are less than k
  abbrev pub count_less : List K → K → ℕ
  count_less ks k = count_by (λ x. is_lt (cmp x k)) ks

  -- whether the key at i compares equal to k
  abbrev pub is_equal_at : List K → K → ℕ → Bool
  is_equal_at ks k i = option_map_or (λ x. is_eq (cmp x k)) (slice_get ks i) false

  -- `Ok` of the index whose key compares equal to k, else `Err` of how many keys are less
  abbrev pub search_of : List K → K → Result ℕ ℕ
  search_of ks k = if is_equal_at ks k (count_less ks k) then Ok (count_less ks k) else Err (count_less ks k)

  -- how many keys are not greater than k
  abbrev pub count_up_to : List K → K → ℕ
  count_up_to ks k = count_by (λ x. not (is_gt (cmp x k))) ks
