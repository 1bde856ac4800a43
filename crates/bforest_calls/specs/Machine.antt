-- The machine that a list of calls runs: what each call may answer, and what it leaves.
use Rattle.bforest.specs.Bounds.{entries_between, entry_at_least, entry_at_most}
use Rattle.bforest.specs.Calls.{Clears, Clones, Compacts, Inserts, Intersects, Loads, Removes, RemovesBetween, SplitsOff, Subtracts, Unites}
use Rattle.bforest.specs.Forest.{Forest, IsLive, emptied, list_of}
use Rattle.bforest.specs.Union.{are_among, are_apart}
use Rattle.bforest_calls.specs.Looks.{all_taken, sights_of}
use Rattle.bforest_calls.specs.State.{Edits, FirstPopped, GotOrInserted, Held, LastPopped, Retained, Shifted, StillAddsUp, Updated, UpdatedOrInserted, as_had}
use Rattle.bforest_calls.specs.declared.call.Answer.TheVariants as answer
use Rattle.bforest_calls.specs.declared.call.Answer.{Answer}
use Rattle.bforest_calls.specs.declared.call.Call.TheVariants as call
use Rattle.bforest_calls.specs.declared.call.Call.{Call}
use Rattle.bforest_calls.specs.declared.call.Seen.{Seen}
use Rattle.bforest_calls.specs.declared.known.Known.{Known}
use Rattle.bforest_core.specs.declared.pool.OutOfMemory.{OutOfMemory}
use Rattle.bforest_nodes.specs.Entries.{IsIncreasing, value_for}
use Rattle.std.proofs.Math.Logic.{◌⊎◌}
use Rattle.std.specs.Global.{Global}
use Rattle.std.specs.Prelude.{All, Bool, Err, List, None, Ok, Option, Result, Some, Vec, [], false, get_or, length, reverse, slice_get, slice_set, true, ◌-◌, ◌<◌, ◌≡◌, ◌≢◌, ◌∷◌, ℕ}
use Rattle.std.specs.declared.cmp.Ordering.TheVariants.{Equal}
use Rattle.std.specs.declared.cmp.Ordering.{Ordering}

-- the state of a run: the forest, and the number of each handle
pub record State (K V : Type 0) : Type 0 where
  pub forest : Forest K V
  pub handles : List (Option ℕ)

abbrev pub Orders : Type 0 → Type 0
Orders K = List (K → K → Ordering)

-- the comparator with this index
abbrev pub order_at : {K : Type 0} → Orders K → ℕ → K → K → Ordering
order_at orders c = get_or orders c (λ _ _. Equal)

-- `Made` holds of a call that is offered, `Lacking` of one that is not
abbrev pub Offered : Bool → (Made Lacking : Type 0) → Type 0
Offered true Made Lacking = Made
Offered false Made Lacking = Lacking

-- what is answered where a tree was made or nodes for it were refused, from its handle's number
abbrev pub as_made : Result (Option ℕ) OutOfMemory → Result (Unit {0}) OutOfMemory
as_made (Ok number) = Ok tt
as_made (Err refused) = Err refused

-- the handles where handle h names a tree that was made; they stay where none was
abbrev pub with_made : ℕ → Result (Option ℕ) OutOfMemory → List (Option ℕ) → List (Option ℕ)
with_made h (Ok number) handles = slice_set handles h number
with_made h (Err refused) handles = handles

-- nothing is known of any handle
abbrev pub KnowsNothing : Known → Type 0
KnowsNothing known = All (λ slot. slot ≡ None) known.slots

module _ {K V : Type 0} where
  -- the number of a handle, what it holds, and its list
  abbrev pub number_at : State K V → ℕ → Option ℕ
  number_at state h = get_or state.handles h None

  abbrev pub held_at : State K V → ℕ → Held K V
  held_at state h = record { forest = state.forest; number = number_at state h }

  abbrev pub list_in : State K V → ℕ → List (K × V)
  list_in state h = list_of state.forest (number_at state h)

  -- whether handle h is live, and tests of handles, comparators and orders by their indices
  abbrev pub Live : State K V → ℕ → Type 0
  Live state h = IsLive state.forest (number_at state h)

  abbrev pub Ordered : Orders K → State K V → ℕ → ℕ → Type 0
  Ordered orders state h c = IsIncreasing (order_at orders c) (list_in state h)

  -- The answer in place of a call is that of the first test that fails: whether the indices are in range,
  -- whether the handle is live, and whether its list increases.
  abbrev pub Refuses : (there live ordered : Type 0) → Answer K V → Type 0
  Refuses there live ordered answer.NoIndex = there → ⊥
  Refuses there live ordered answer.Dead = there × (live → ⊥)
  Refuses there live ordered answer.Unordered = there × live × (ordered → ⊥)
  Refuses there live ordered given = ⊥

  -- A call is refused and nothing changes, or it passes all tests and is made.
  abbrev pub Tests : (there live ordered : Type 0) → State K V → Answer K V → State K V → Type 0 → Type 0
  Tests there live ordered old given new Made = (Refuses there live ordered given × (new ≡ old)) ⊎ (there × live × ordered × Made)

  -- the tests of a call on handle h; of one that names comparator c too; and of one that compares keys by c
  abbrev pub Names : ℕ → State K V → Answer K V → State K V → Type 0 → Type 0
  Names h old = Tests (h < length old.handles) (Live old h) (Unit {0}) old

  abbrev pub NamesBoth : Orders K → ℕ → ℕ → State K V → Answer K V → State K V → Type 0 → Type 0
  NamesBoth orders h c old = Tests ((h < length old.handles) × (c < length orders)) (Live old h) (Unit {0}) old

  abbrev pub Compares : Orders K → ℕ → ℕ → State K V → Answer K V → State K V → Type 0 → Type 0
  Compares orders h c old = Tests ((h < length old.handles) × (c < length orders)) (Live old h) (Ordered orders old h c) old

  -- the tests of a call on handles h and o that compares the keys of both by comparator c
  abbrev pub ComparesBoth : Orders K → ℕ → ℕ → ℕ → State K V → Answer K V → State K V → Type 0 → Type 0
  ComparesBoth orders h o c old =
      Tests ((h < length old.handles) × (o < length old.handles) × (c < length orders)) (Live old h × Live old o) (Ordered orders old h c × Ordered orders old o c) old

  -- the tests of a call on handle h that compares keys by comparator c, and makes a tree for another handle
  abbrev pub ComparesInto : Orders K → (h c to : ℕ) → State K V → Answer K V → State K V → Type 0 → Type 0
  ComparesInto orders h c to old =
      Tests ((h < length old.handles) × (c < length orders) × (to < length old.handles) × (to ≢ h)) (Live old h) (Ordered orders old h c) old

  -- a call that is not offered: only its indices are tested
  abbrev pub Lacks : (there : Type 0) → State K V → Answer K V → State K V → Type 0
  Lacks there old answer.NoIndex new = (there → ⊥) × (new ≡ old)
  Lacks there old answer.NotOffered new = there × (new ≡ old)
  Lacks there old given new = ⊥

  -- a call on handle h that compares keys by c, and that only maps offer, where `offered`
  abbrev pub ComparesIf : (offered : Bool) → Orders K → ℕ → ℕ → State K V → Answer K V → State K V → Type 0 → Type 0
  ComparesIf offered orders h c old given new Made =
      Offered offered (Compares orders h c old given new Made) (Lacks ((h < length old.handles) × (c < length orders)) old given new)

  -- A change of handle h and of its tree: each other handle keeps its number.
  abbrev pub On : ℕ → State K V → State K V → (Held K V → Held K V → Type 0) → Type 0
  On h old new R =
      (number : Option ℕ) × (new.handles ≡ slice_set old.handles h number) × R (held_at old h) (record { forest = new.forest; number = number })

  -- A tree was made for handle h, or nodes for it were refused: the tree that h named before stays.
  abbrev pub MakesFor : ℕ → State K V → Answer K V → State K V → (Result (Option ℕ) OutOfMemory → Forest K V → Type 0) → Type 0
  MakesFor h old given new R =
      (result : Result (Option ℕ) OutOfMemory) × (given ≡ answer.Made (as_made result)) × (new.handles ≡ with_made h result old.handles) × R result new.forest

  -- Handle h keeps a part of its tree, and a tree of the rest was made for handle `to`; or nodes for it were refused, and `to` stays.
  abbrev pub PartsFor : (h to : ℕ) → State K V → Answer K V → State K V → (Result (Option ℕ) OutOfMemory → Held K V → Type 0) → Type 0
  PartsFor h to old given new R =
      (number : Option ℕ) × (result : Result (Option ℕ) OutOfMemory) × (given ≡ answer.Made (as_made result))
      × (new.handles ≡ with_made to result (slice_set old.handles h number)) × R result (record { forest = new.forest; number = number })

  -- a call on handle h that compares keys by comparator c passes all tests
  abbrev pub Passes : Orders K → State K V → ℕ → ℕ → Type 0
  Passes orders state h c = (h < length state.handles) × (c < length orders) × Live state h × Ordered orders state h c

  -- what is known of a state: nothing, or of a handle and a comparator, by their indices, that a call that compares keys passes all tests
  abbrev pub IsKnown : Orders K → State K V → Option (ℕ × ℕ) → Type 0
  IsKnown orders state None = Unit {0}
  IsKnown orders state (Some known) = Passes orders state known.0 known.1

  -- what is known of a state, of each handle that is remembered
  abbrev pub AreKnown : Orders K → State K V → Known → Type 0
  AreKnown orders state known = All (IsKnown orders state) known.slots

  -- Memory is requested: for the answer of a call, which is a list, where the call is offered and passes its tests; and for the keys of a
  -- set that is loaded. None is requested for the steps of a cursor or a range where there are none, nor for no keys. `reads` is whether
  -- the calls that only maps have are offered.
  abbrev pub AsksRoom : (reads : Bool) → Orders K → State K V → Call K V → Type 0
  AsksRoom reads orders state (call.Iter h) = (h < length state.handles) × Live state h
  AsksRoom reads orders state (call.IterBack h) = (h < length state.handles) × Live state h
  AsksRoom reads orders state (call.Read h c steps) = (reads ≡ true) × (0 < length steps.items) × Passes orders state h c
  AsksRoom reads orders state (call.Edit h c steps) = (0 < length steps.items) × Passes orders state h c
  AsksRoom reads orders state (call.Range h c lo hi ends) = (0 < length ends.items) × Passes orders state h c
  AsksRoom reads orders state (call.Load h entries) = (reads ≡ false) × (0 < length entries.items) × (h < length state.handles)
  AsksRoom reads orders state other = ⊥

  -- a list of calls may end for want of memory after the first n, which left this state, and before the last: before any call, or at a
  -- call for which memory is requested in this state
  abbrev pub MayStopAt : (reads : Bool) → Orders K → State K V → List (Call K V) → ℕ → Type 0
  MayStopAt reads orders state calls n =
      (n < length calls) × (0 < n → (call : Call K V) × (slice_get calls n ≡ Some call) × AsksRoom reads orders state call)

  -- an answer that lists the answers of steps
  abbrev pub Shows : List (Seen K V) → Answer K V → Type 0
  Shows list given = (sights : Vec (Seen K V) Global) × (given ≡ answer.Script sights) × (sights.items ≡ list)

  -- `most` is the number of entries that a leaf has at most; `reads` is whether the calls that only maps have are offered
  module _ (most : ℕ) (reads : Bool) where
    -- from old, the machine may give this answer to the call and go on to new
    abbrev pub Step : Orders K → State K V → Call K V → Answer K V → State K V → Type 0
    Step orders old (call.Get h c k) given new =
        Compares orders h c old given new ((given ≡ answer.Value (value_for (order_at orders c) (list_in old h) k)) × (new ≡ old))
    Step orders old (call.GetOrLess h c k) given new =
        Compares orders h c old given new ((given ≡ answer.Pair (entry_at_most (order_at orders c) (list_in old h) k)) × (new ≡ old))
    Step orders old (call.GetOrGreater h c k) given new =
        Compares orders h c old given new ((given ≡ answer.Pair (entry_at_least (order_at orders c) (list_in old h) k)) × (new ≡ old))
    Step orders old (call.First h) given new = Names h old given new ((given ≡ answer.Pair (slice_get (list_in old h) 0)) × (new ≡ old))
    Step orders old (call.Last h) given new =
        Names h old given new ((given ≡ answer.Pair (slice_get (list_in old h) (length (list_in old h) - 1))) × (new ≡ old))
    Step orders old (call.Insert h c k v) given new = Compares orders h c old given new
        ((result : Result (Option V) OutOfMemory) × (given ≡ answer.Put result)
        × On h old new (λ held after. Inserts most (order_at orders c) held.forest held.number k v result after.forest after.number))
    Step orders old (call.GetOrInsert h c k v) given new = ComparesIf reads orders h c old given new
        ((result : Result V OutOfMemory) × (given ≡ answer.Put (as_had result)) × On h old new (GotOrInserted most (order_at orders c) k v result))
    Step orders old (call.Update h c k v) given new = ComparesIf reads orders h c old given new
        ((value : Option V) × (given ≡ answer.Value value) × On h old new (Updated (order_at orders c) k v value))
    Step orders old (call.UpdateOrInsert h c k v put) given new = ComparesIf reads orders h c old given new
        ((result : Result V OutOfMemory) × (given ≡ answer.Put (as_had result)) × On h old new (UpdatedOrInserted most (order_at orders c) k v put result))
    Step orders old (call.Shift h c from keys) given new =
        Compares orders h c old given new ((given ≡ answer.Done) × On h old new (Shifted (order_at orders c) from keys.items))
    Step orders old (call.Remove h c k) given new = Compares orders h c old given new
        ((value : Option V) × (given ≡ answer.Value value)
        × On h old new (λ held after. Removes most (order_at orders c) held.forest held.number k value after.forest after.number))
    Step orders old (call.PopFirst h) given new = Names h old given new
        ((entry : Option (K × V)) × (given ≡ answer.Pair entry) × On h old new (FirstPopped most entry))
    Step orders old (call.PopLast h) given new = Names h old given new
        ((entry : Option (K × V)) × (given ≡ answer.Pair entry) × On h old new (LastPopped most entry))
    Step orders old (call.Len h) given new = Names h old given new ((given ≡ answer.Count (length (list_in old h))) × (new ≡ old))
    Step orders old (call.Compact h) given new = Names h old given new
        ((result : Result (Unit {0}) OutOfMemory) × (given ≡ answer.Made result)
        × On h old new (λ held after. Compacts most held.forest held.number result after.forest after.number))
    Step orders old (call.RemoveRange h c lo hi) given new = Compares orders h c old given new
        ((changed : Bool) × (given ≡ answer.Changed changed)
        × On h old new (λ held after. RemovesBetween most (order_at orders c) lo hi held.forest held.number changed after.forest after.number))
    Step orders old (call.Unite h other c) given new = ComparesBoth orders h other c old given new
        ((result : Result Bool OutOfMemory) × (given ≡ answer.United result)
        × On h old new (λ held after. Unites most (order_at orders c) held.forest held.number (number_at old other) result after.forest after.number))
    Step orders old (call.Intersect h other c) given new = ComparesBoth orders h other c old given new
        ((changed : Bool) × (given ≡ answer.Changed changed)
        × On h old new (λ held after. Intersects most (order_at orders c) held.forest held.number (number_at old other) changed after.forest after.number))
    Step orders old (call.Subtract h other c) given new = ComparesBoth orders h other c old given new
        ((changed : Bool) × (given ≡ answer.Changed changed)
        × On h old new (λ held after. Subtracts most (order_at orders c) held.forest held.number (number_at old other) changed after.forest after.number))
    Step orders old (call.IsSubset h other c) given new = ComparesBoth orders h other c old given new
        ((given ≡ answer.Holds (are_among (order_at orders c) (list_in old h) (list_in old other))) × (new ≡ old))
    Step orders old (call.IsDisjoint h other c) given new = ComparesBoth orders h other c old given new
        ((given ≡ answer.Holds (are_apart (order_at orders c) (list_in old h) (list_in old other))) × (new ≡ old))
    Step orders old (call.Clear h) given new = Names h old given new
        ((given ≡ answer.Done) × On h old new (λ held after. Clears held.forest held.number after.forest after.number))
    Step orders old (call.Iter h) given new = Names h old given new
        ((pairs : Vec (K × V) Global) × (given ≡ answer.Pairs pairs) × (pairs.items ≡ list_in old h) × (new ≡ old))
    Step orders old (call.IterBack h) given new = Names h old given new
        ((pairs : Vec (K × V) Global) × (given ≡ answer.Pairs pairs) × (pairs.items ≡ reverse (list_in old h)) × (new ≡ old))
    Step orders old (call.Read h c steps) given new = ComparesIf reads orders h c old given new
        (Shows (sights_of (order_at orders c) (list_in old h) (length (list_in old h)) steps.items) given × (new ≡ old))
    Step orders old (call.Edit h c steps) given new = Compares orders h c old given new
        ((sights : Vec (Seen K V) Global) × (given ≡ answer.Script sights) × On h old new (Edits most (order_at orders c) steps.items sights.items))
    Step orders old (call.Range h c lo hi ends) given new = Compares orders h c old given new
        (Shows (all_taken (entries_between (order_at orders c) lo hi (list_in old h)) ends.items) given × (new ≡ old))
    Step orders old (call.Retain h c keys put) given new =
        NamesBoth orders h c old given new ((given ≡ answer.Done) × On h old new (Retained most (order_at orders c) keys.items put))
    Step orders old (call.Alias from to) given new = Tests ((from < length old.handles) × (to < length old.handles)) (Unit {0}) (Unit {0}) old given new
        ((given ≡ answer.Done) × (new ≡ record old { handles = slice_set old.handles to (number_at old from) }))
    Step orders old (call.DeepClone from to) given new = Tests ((from < length old.handles) × (to < length old.handles)) (Live old from) (Unit {0}) old given new
        (MakesFor to old given new (Clones old.forest (number_at old from)))
    Step orders old (call.SplitOff h c k to) given new = ComparesInto orders h c to old given new
        (PartsFor h to old given new (λ result after. SplitsOff most (order_at orders c) old.forest (number_at old h) k result after.forest after.number))
    Step orders old (call.Load h entries) given new = Tests (h < length old.handles) (Unit {0}) (Unit {0}) old given new
        (MakesFor h old given new (Loads most old.forest entries.items))
    Step orders old call.ForestClear given new = (given ≡ answer.Done) × (new ≡ record old { forest = emptied old.forest })

    -- the steps of a list of calls, each from the state that the call before it left
    abbrev pub Run : Orders K → State K V → List (Call K V) → List (Answer K V) → State K V → Type 0
    Run orders old [] [] new = new ≡ old
    Run orders old (call ∷ calls) (given ∷ answers) new =
        (mid : State K V) × Step orders old call given mid × Run orders mid calls answers new × StillAddsUp most old.forest mid.forest
    Run orders old [] (given ∷ answers) new = ⊥
    Run orders old (call ∷ calls) [] new = ⊥
