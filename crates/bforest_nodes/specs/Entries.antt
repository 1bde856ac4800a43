-- An ordered map as the list of its entries, under an order of its keys.
use Rattle.std.specs.List.Sorted.{IsStrictlySortedBy}
use Rattle.std.specs.Map.{keys_of}
use Rattle.std.specs.Ordering.{is_eq, is_lt}
use Rattle.std.specs.Prelude.{Bool, Err, List, Ok, Option, None, Result, Some, [], count_by, if◌then◌else◌, insert, is_some, map, option_and_then, option_map, remove, slice_get, suc, zero, ◌∷◌, ℕ}
use Rattle.std.specs.declared.cmp.Ordering.{Ordering}

-- the entries of a set with these keys: the value of each is the unit
abbrev pub with_unit : {K : Type 0} → List K → List (K × Unit {0})
with_unit keys = map (λ k. (k, tt)) keys

-- the list with v as the value of the entry at p
abbrev pub with_value : {K X : Type 0} → List (K × X) → ℕ → X → List (K × X)
with_value [] p v = []
with_value (e ∷ es) zero v = (e.0, v) ∷ es
with_value (e ∷ es) (suc p) v = e ∷ with_value es p v

-- the list with k as the key of the entry at p
abbrev pub rekeyed : {K X : Type 0} → List (K × X) → ℕ → K → List (K × X)
rekeyed [] p k = []
rekeyed (e ∷ es) zero k = (k, e.1) ∷ es
rekeyed (e ∷ es) (suc p) k = e ∷ rekeyed es p k

-- the value of the entry at p
abbrev pub value_at_place : {K X : Type 0} → List (K × X) → ℕ → Option X
value_at_place es p = option_map (λ e. e.1) (slice_get es p)

module _ {K X : Type 0} (cmp : K → K → Ordering) where
  -- each key is less than those after it
  abbrev pub IsIncreasing : List (K × X) → Type 0
  IsIncreasing es = IsStrictlySortedBy cmp (keys_of es)

  -- how many keys are less than k
  abbrev pub place : List (K × X) → K → ℕ
  place es k = count_by (λ e. is_lt (cmp e.0 k)) es

  -- the entry at the place of k, if its key compares equal to k
  abbrev pub entry_for : List (K × X) → K → Option (K × X)
  entry_for es k = option_and_then (λ e. if is_eq (cmp e.0 k) then Some e else None) (slice_get es (place es k))

  -- whether a key compares equal to k
  abbrev pub is_present : List (K × X) → K → Bool
  is_present es k = is_some (entry_for es k)

  -- the value of k
  abbrev pub value_for : List (K × X) → K → Option X
  value_for es k = option_map (λ e. e.1) (entry_for es k)

  -- `Ok` of the place of k if it is present, else `Err` of it
  abbrev pub search_for : List (K × X) → K → Result ℕ ℕ
  search_for es k = if is_present es k then Ok (place es k) else Err (place es k)

  -- the list with v as the value of k: written at the entry whose key compares equal, else inserted at the
  -- place of k
  abbrev pub put : List (K × X) → K → X → List (K × X)
  put es k v = if is_present es k then with_value es (place es k) v else insert es (place es k) (k, v)

  -- the list without the entry whose key compares equal to k, if present
  abbrev pub cut : List (K × X) → K → List (K × X)
  cut es k = if is_present es k then remove es (place es k) else es
