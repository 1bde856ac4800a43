-- What the steps of a reading cursor answer, and those from the ends of a range.
use Rattle.bforest_calls.specs.declared.call.Look.TheVariants as look
use Rattle.bforest_calls.specs.declared.call.Look.{Look}
use Rattle.bforest_calls.specs.declared.call.Seen.TheVariants as seen
use Rattle.bforest_calls.specs.declared.call.Seen.{Seen}
use Rattle.bforest_calls.specs.declared.call.Side.TheVariants.{Back, Front}
use Rattle.bforest_calls.specs.declared.call.Side.{Side}
use Rattle.bforest_core.specs.Place.{entry_before}
use Rattle.bforest_nodes.specs.Entries.{place, value_at_place, value_for}
use Rattle.std.specs.Prelude.{List, [], drop, is_none, length, map, min, option_map, slice_get, take, ◌+◌, ◌-◌, ◌∷◌, ℕ}
use Rattle.std.specs.declared.cmp.Ordering.{Ordering}

module _ {K V : Type 0} (order : K → K → Ordering) (es : List (K × V)) where
  -- the answer of a step in a list of entries, from a place in the list
  abbrev pub sight_of : ℕ → Look K → Seen K V
  sight_of p look.Empty = seen.Flag (is_none (slice_get es 0))
  sight_of p look.Next = seen.Pair (slice_get es (p + 1))
  sight_of p look.Prev = seen.Pair (entry_before es p)
  sight_of p look.Key = seen.Key (option_map (λ e. e.0) (slice_get es p))
  sight_of p look.Value = seen.Value (value_at_place es p)
  sight_of p (look.Goto k) = seen.Value (value_for order es k)
  sight_of p look.First = seen.Pair (slice_get es 0)
  sight_of p look.End = seen.Done

  -- the place after a step: the number of entries is the end
  abbrev pub place_after : ℕ → Look K → ℕ
  place_after p look.Next = min (p + 1) (length es)
  place_after p look.Prev = p - 1
  place_after p (look.Goto k) = place order es k
  place_after p look.First = 0
  place_after p look.End = length es
  place_after p stays = p

  -- the answers of the steps in turn
  abbrev pub sights_of : ℕ → List (Look K) → List (Seen K V)
  sights_of p [] = []
  sights_of p (step ∷ steps) = sight_of p step ∷ sights_of (place_after p step) steps

-- the entries of a set with these keys
abbrev pub with_each : {K : Type 0} → List K → List (K × Unit {0})
with_each keys = map (λ k. (k, tt)) keys

module _ {K V : Type 0} where
  -- the answer of a step from one end of the entries that are left
  abbrev pub taken : List (K × V) → Side → Seen K V
  taken left Front = seen.Pair (slice_get left 0)
  taken left Back = seen.Pair (entry_before left (length left))

  -- the entries that are left after a step from one end
  abbrev pub left_after : List (K × V) → Side → List (K × V)
  left_after left Front = drop 1 left
  left_after left Back = take (length left - 1) left

  -- the answers of the steps in turn
  abbrev pub all_taken : List (K × V) → List Side → List (Seen K V)
  all_taken left [] = []
  all_taken left (side ∷ sides) = taken left side ∷ all_taken (left_after left side) sides
