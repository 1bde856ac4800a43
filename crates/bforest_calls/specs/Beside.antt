-- A call that compares the keys of two lists: on one handle, with another one, where both are there and live, and all tests are passed.
use Rattle.bforest.specs.Calls.{Intersects, Subtracts, Unites}
use Rattle.bforest.specs.Forest.{list_of}
use Rattle.bforest.specs.Union.{are_among, are_apart}
use Rattle.bforest_calls.specs.State.{Held, entries}
use Rattle.bforest_calls.specs.declared.call.Answer.TheVariants as answer
use Rattle.bforest_calls.specs.declared.call.Answer.{Answer}
use Rattle.bforest_calls.specs.declared.call.Call.TheVariants as call
use Rattle.bforest_calls.specs.declared.call.Call.{Call}
use Rattle.bforest_core.specs.declared.pool.OutOfMemory.{OutOfMemory}
use Rattle.std.specs.Prelude.{Bool, Option, Result, ◌≡◌, ℕ}
use Rattle.std.specs.declared.cmp.Ordering.{Ordering}

module _ {K V : Type 0} where
  -- the call is on handle h, reads the list of handle o beside, and compares keys by comparator c
  abbrev pub IsBeside : ℕ → ℕ → ℕ → Call K V → Type 0
  IsBeside h o c (call.Unite a b d) = (a ≡ h) × (b ≡ o) × (d ≡ c)
  IsBeside h o c (call.Intersect a b d) = (a ≡ h) × (b ≡ o) × (d ≡ c)
  IsBeside h o c (call.Subtract a b d) = (a ≡ h) × (b ≡ o) × (d ≡ c)
  IsBeside h o c (call.IsSubset a b d) = (a ≡ h) × (b ≡ o) × (d ≡ c)
  IsBeside h o c (call.IsDisjoint a b d) = (a ≡ h) × (b ≡ o) × (d ≡ c)
  IsBeside h o c other = ⊥

  -- what such a call answers and leaves, beside the handle with the number `theirs`; a leaf has at most `most` entries
  module _ (most : ℕ) (order : K → K → Ordering) (theirs : Option ℕ) where
    abbrev pub MakesBeside : Call K V → Held K V → Answer K V → Held K V → Type 0
    MakesBeside (call.Unite h other c) old given new =
        (result : Result Bool OutOfMemory) × (given ≡ answer.United result) × Unites most order old.forest old.number theirs result new.forest new.number
    MakesBeside (call.Intersect h other c) old given new =
        (changed : Bool) × (given ≡ answer.Changed changed) × Intersects most order old.forest old.number theirs changed new.forest new.number
    MakesBeside (call.Subtract h other c) old given new =
        (changed : Bool) × (given ≡ answer.Changed changed) × Subtracts most order old.forest old.number theirs changed new.forest new.number
    MakesBeside (call.IsSubset h other c) old given new = (given ≡ answer.Holds (are_among order (entries old) (list_of old.forest theirs))) × (new ≡ old)
    MakesBeside (call.IsDisjoint h other c) old given new = (given ≡ answer.Holds (are_apart order (entries old) (list_of old.forest theirs))) × (new ≡ old)
    MakesBeside other old given new = ⊥
