-- A call that compares keys: on one handle, by one comparator, where both are there and all tests are passed.
use Rattle.bforest.specs.Bounds.{entries_between, entry_at_least, entry_at_most}
use Rattle.bforest.specs.Calls.{Inserts, Removes, RemovesBetween}
use Rattle.bforest_calls.specs.Looks.{all_taken, sights_of}
use Rattle.bforest_calls.specs.Machine.{Shows}
use Rattle.bforest_calls.specs.State.{Edits, GotOrInserted, Held, Shifted, Updated, UpdatedOrInserted, as_had, entries}
use Rattle.bforest_calls.specs.declared.call.Answer.TheVariants as answer
use Rattle.bforest_calls.specs.declared.call.Answer.{Answer}
use Rattle.bforest_calls.specs.declared.call.Call.TheVariants as call
use Rattle.bforest_calls.specs.declared.call.Call.{Call}
use Rattle.bforest_calls.specs.declared.call.Seen.{Seen}
use Rattle.bforest_core.specs.declared.pool.OutOfMemory.{OutOfMemory}
use Rattle.bforest_nodes.specs.Entries.{value_for}
use Rattle.std.specs.Global.{Global}
use Rattle.std.specs.Prelude.{Bool, Option, Result, Vec, length, true, ◌<◌, ◌≡◌, ℕ}
use Rattle.std.specs.declared.cmp.Ordering.{Ordering}

module _ {K V : Type 0} where
  -- the call is on handle h, and compares keys by comparator c
  abbrev pub IsComparing : Bool → ℕ → ℕ → Call K V → Type 0
  IsComparing reads h c (call.Get a b k) = (a ≡ h) × (b ≡ c)
  IsComparing reads h c (call.GetOrLess a b k) = (a ≡ h) × (b ≡ c)
  IsComparing reads h c (call.GetOrGreater a b k) = (a ≡ h) × (b ≡ c)
  IsComparing reads h c (call.Insert a b k v) = (a ≡ h) × (b ≡ c)
  IsComparing reads h c (call.GetOrInsert a b k v) = (a ≡ h) × (b ≡ c) × (reads ≡ true)
  IsComparing reads h c (call.Update a b k v) = (a ≡ h) × (b ≡ c) × (reads ≡ true)
  IsComparing reads h c (call.UpdateOrInsert a b k v put) = (a ≡ h) × (b ≡ c) × (reads ≡ true)
  IsComparing reads h c (call.Shift a b from keys) = (a ≡ h) × (b ≡ c)
  IsComparing reads h c (call.Remove a b k) = (a ≡ h) × (b ≡ c)
  IsComparing reads h c (call.Read a b steps) = (a ≡ h) × (b ≡ c) × (reads ≡ true)
  IsComparing reads h c (call.Edit a b steps) = (a ≡ h) × (b ≡ c)
  IsComparing reads h c (call.Range a b lo hi ends) = (a ≡ h) × (b ≡ c)
  IsComparing reads h c (call.RemoveRange a b lo hi) = (a ≡ h) × (b ≡ c)
  IsComparing reads h c other = ⊥

  -- the call compares keys by comparator c, and leaves handle h a list that increases under it
  abbrev pub IsKeeping : ℕ → ℕ → Call K V → Type 0
  IsKeeping h c (call.Get a b k) = (a ≡ h) × (b ≡ c)
  IsKeeping h c (call.GetOrLess a b k) = (a ≡ h) × (b ≡ c)
  IsKeeping h c (call.GetOrGreater a b k) = (a ≡ h) × (b ≡ c)
  IsKeeping h c (call.Insert a b k v) = (a ≡ h) × (b ≡ c)
  IsKeeping h c (call.GetOrInsert a b k v) = (a ≡ h) × (b ≡ c)
  IsKeeping h c (call.Update a b k v) = (a ≡ h) × (b ≡ c)
  IsKeeping h c (call.UpdateOrInsert a b k v put) = (a ≡ h) × (b ≡ c)
  IsKeeping h c (call.Remove a b k) = (a ≡ h) × (b ≡ c)
  IsKeeping h c (call.Read a b steps) = (a ≡ h) × (b ≡ c)
  IsKeeping h c (call.Range a b lo hi ends) = (a ≡ h) × (b ≡ c)
  IsKeeping h c (call.RemoveRange a b lo hi) = (a ≡ h) × (b ≡ c)
  IsKeeping h c (call.Edit a b steps) = (a ≡ h) × (b ≡ c)
  IsKeeping h c (call.Unite a o b) = (a ≡ h) × (b ≡ c)
  IsKeeping h c (call.Intersect a o b) = (a ≡ h) × (b ≡ c)
  IsKeeping h c (call.Subtract a o b) = (a ≡ h) × (b ≡ c)
  IsKeeping h c (call.IsSubset a o b) = (a ≡ h) × (b ≡ c)
  IsKeeping h c (call.IsDisjoint a o b) = (a ≡ h) × (b ≡ c)
  IsKeeping h c other = ⊥

  -- the call is such a call, and only maps offer it
  abbrev pub IsOfMaps : ℕ → ℕ → Call K V → Type 0
  IsOfMaps h c (call.GetOrInsert a b k v) = (a ≡ h) × (b ≡ c)
  IsOfMaps h c (call.Update a b k v) = (a ≡ h) × (b ≡ c)
  IsOfMaps h c (call.UpdateOrInsert a b k v put) = (a ≡ h) × (b ≡ c)
  IsOfMaps h c (call.Read a b steps) = (a ≡ h) × (b ≡ c)
  IsOfMaps h c other = ⊥

  -- the answer of a call that compares keys is a list, of one answer for each of its steps, and it has a step
  abbrev pub IsListed : Call K V → Type 0
  IsListed (call.Read h c steps) = 0 < length steps.items
  IsListed (call.Edit h c steps) = 0 < length steps.items
  IsListed (call.Range h c lo hi ends) = 0 < length ends.items
  IsListed other = ⊥

  module _ (most : ℕ) (order : K → K → Ordering) where
    -- what such a call answers and leaves
    abbrev pub Makes : Call K V → Held K V → Answer K V → Held K V → Type 0
    Makes (call.Get h c k) old given new = (given ≡ answer.Value (value_for order (entries old) k)) × (new ≡ old)
    Makes (call.GetOrLess h c k) old given new = (given ≡ answer.Pair (entry_at_most order (entries old) k)) × (new ≡ old)
    Makes (call.GetOrGreater h c k) old given new = (given ≡ answer.Pair (entry_at_least order (entries old) k)) × (new ≡ old)
    Makes (call.Insert h c k v) old given new =
        (result : Result (Option V) OutOfMemory) × (given ≡ answer.Put result) × Inserts most order old.forest old.number k v result new.forest new.number
    Makes (call.GetOrInsert h c k v) old given new = (result : Result V OutOfMemory) × (given ≡ answer.Put (as_had result)) × GotOrInserted most order k v result old new
    Makes (call.Update h c k v) old given new = (value : Option V) × (given ≡ answer.Value value) × Updated order k v value old new
    Makes (call.UpdateOrInsert h c k v put) old given new =
        (result : Result V OutOfMemory) × (given ≡ answer.Put (as_had result)) × UpdatedOrInserted most order k v put result old new
    Makes (call.Shift h c from keys) old given new = (given ≡ answer.Done) × Shifted order from keys.items old new
    Makes (call.Remove h c k) old given new = (value : Option V) × (given ≡ answer.Value value) × Removes most order old.forest old.number k value new.forest new.number
    Makes (call.Read h c steps) old given new = Shows (sights_of order (entries old) (length (entries old)) steps.items) given × (new ≡ old)
    Makes (call.Edit h c steps) old given new = (sights : Vec (Seen K V) Global) × (given ≡ answer.Script sights) × Edits most order steps.items sights.items old new
    Makes (call.Range h c lo hi ends) old given new = Shows (all_taken (entries_between order lo hi (entries old)) ends.items) given × (new ≡ old)
    Makes (call.RemoveRange h c lo hi) old given new =
        (changed : Bool) × (given ≡ answer.Changed changed) × RemovesBetween most order lo hi old.forest old.number changed new.forest new.number
    Makes other old given new = ⊥
