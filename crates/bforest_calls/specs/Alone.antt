-- A call that compares no key: on one handle, where it is there and live.
use Rattle.bforest.specs.Calls.{Compacts}
use Rattle.bforest_calls.specs.State.{FirstPopped, Held, LastPopped, entries}
use Rattle.bforest_calls.specs.declared.call.Answer.TheVariants as answer
use Rattle.bforest_calls.specs.declared.call.Answer.{Answer}
use Rattle.bforest_calls.specs.declared.call.Call.TheVariants as call
use Rattle.bforest_calls.specs.declared.call.Call.{Call}
use Rattle.bforest_core.specs.declared.pool.OutOfMemory.{OutOfMemory}
use Rattle.std.specs.Prelude.{Option, Result, length, slice_get, ◌-◌, ◌≡◌, ℕ}

module _ {K V : Type 0} where
  -- the call is on handle h alone
  abbrev pub IsAlone : ℕ → Call K V → Type 0
  IsAlone h (call.First a) = a ≡ h
  IsAlone h (call.Last a) = a ≡ h
  IsAlone h (call.PopFirst a) = a ≡ h
  IsAlone h (call.PopLast a) = a ≡ h
  IsAlone h (call.Len a) = a ≡ h
  IsAlone h (call.Compact a) = a ≡ h
  IsAlone h other = ⊥

  -- what such a call answers and leaves, where a leaf has at most `most` entries
  abbrev pub MakesAlone : ℕ → Call K V → Held K V → Answer K V → Held K V → Type 0
  MakesAlone most (call.First h) old given new = (given ≡ answer.Pair (slice_get (entries old) 0)) × (new ≡ old)
  MakesAlone most (call.Last h) old given new = (given ≡ answer.Pair (slice_get (entries old) (length (entries old) - 1))) × (new ≡ old)
  MakesAlone most (call.PopFirst h) old given new = (entry : Option (K × V)) × (given ≡ answer.Pair entry) × FirstPopped most entry old new
  MakesAlone most (call.PopLast h) old given new = (entry : Option (K × V)) × (given ≡ answer.Pair entry) × LastPopped most entry old new
  MakesAlone most (call.Len h) old given new = (given ≡ answer.Count (length (entries old))) × (new ≡ old)
  MakesAlone most (call.Compact h) old given new =
      (result : Result (Unit {0}) OutOfMemory) × (given ≡ answer.Made result) × Compacts most old.forest old.number result new.forest new.number
  MakesAlone most other old given new = ⊥
