-- The state of a call on one handle, and what the call leaves.
use Rattle.bforest.specs.Calls.{Filters, GetsOrInserts, Inserts, Pops, RemovesAt, Shifts, Updates, UpdatesOrInserts}
use Rattle.bforest.specs.Forest.{Becomes, Forest, IsAccounted, free_of, limit_of, list_at, list_of, memory_of, sizes_at, sizes_of, slots_of}
use Rattle.bforest_calls.specs.Looks.{place_after, sight_of}
use Rattle.bforest_calls.specs.declared.call.Act.TheVariants as act
use Rattle.bforest_calls.specs.declared.call.Act.{Act}
use Rattle.bforest_calls.specs.declared.call.Look.TheVariants as look
use Rattle.bforest_calls.specs.declared.call.Look.{Look}
use Rattle.bforest_calls.specs.declared.call.Seen.TheVariants as seen
use Rattle.bforest_calls.specs.declared.call.Seen.{Seen}
use Rattle.bforest_core.specs.Sizes.{IsFitFor}
use Rattle.bforest_core.specs.declared.pool.OutOfMemory.{OutOfMemory}
use Rattle.bforest_nodes.specs.Entries.{place, with_value}
use Rattle.std.specs.Fn.{Once}
use Rattle.std.specs.List.{find, list_any}
use Rattle.std.specs.Ordering.{is_eq}
use Rattle.std.specs.Prelude.{Bool, Err, List, Ok, Option, Result, Some, [], is_some, length, option_map, slice_get, unwrap_or, ◌-◌, ◌≡◌, ◌≤◌, ◌∷◌, ℕ}
use Rattle.std.specs.declared.cmp.Ordering.{Ordering}

-- Each number's sizes are those of a fit tree of its list, the slots are the free ones and the nodes of all
-- trees, and there are no more than the limit allows. `most` is the number of entries that a leaf has at most.
pub record AddsUp {K V : Type 0} (most : ℕ) (f : Forest K V) : Type 0 where
  pub slots : IsAccounted f
  pub within : slots_of f ≤ limit_of f
  pub fit : (n : ℕ) → IsFitFor most (length (list_at f n)) (sizes_at f n)

-- where f adds up, f' does
abbrev pub StillAddsUp : {K V : Type 0} → ℕ → Forest K V → Forest K V → Type 0
StillAddsUp most f f' = AddsUp most f → AddsUp most f'

-- the state of a call on one handle: the forest, and the handle's number
pub record Held (K V : Type 0) : Type 0 where
  pub forest : Forest K V
  pub number : Option ℕ

-- whether one of the keys compares equal to k
abbrev pub is_listed : {K : Type 0} → (K → K → Ordering) → List K → K → Bool
is_listed order keys k = list_any (λ listed. is_eq (order listed k)) keys

-- the new key of the first pair whose old key compares equal to k, else k
abbrev pub new_key : {K : Type 0} → (K → K → Ordering) → List (K × K) → K → K
new_key order keys k = unwrap_or (option_map (λ pair. pair.1) (find (λ pair. is_eq (order pair.0 k)) keys)) k

-- a closure without a state, which may be called with any value and returns v
abbrev pub returning : {V : Type 0} → V → Once (Unit {0}) (V × Unit {0}) V
returning v = record { pre = λ it given. Unit {0}; post = λ it given result. result ≡ v }

-- a value that a key has, told as an insertion tells the value that was there
abbrev pub as_had : {V : Type 0} → Result V OutOfMemory → Result (Option V) OutOfMemory
as_had (Ok v) = Ok (Some v)
as_had (Err refused) = Err refused

module _ {K V : Type 0} where
  -- the list of the handle
  abbrev pub entries : Held K V → List (K × V)
  entries held = list_of held.forest held.number

  -- An entry is kept if its key is listed, with the value of `put` if there is one, else with its own. The
  -- predicate has no state.
  abbrev pub KeepsIf : (K → K → Ordering) → List K → Option V → Unit {0} → K → V → Bool → V → Unit {0} → Type 0
  KeepsIf order keys put _ k v kept left _ = (kept ≡ is_listed order keys k) × (left ≡ unwrap_or put v)

  -- one value is written, in nodes of the same sizes; the handle's number and the number of slots stay
  pub record WritesAt (old : Held K V) (p : ℕ) (value : V) (new : Held K V) : Type 0 where
    pub becomes : Becomes old.forest old.number new.forest new.number (with_value (entries old) p value)
    pub number : new.number ≡ old.number
    pub sizes : sizes_of new.forest new.number ≡ sizes_of old.forest old.number
    pub slots : slots_of new.forest ≡ slots_of old.forest
    pub free : free_of new.forest ≡ free_of old.forest
    pub memory : memory_of new.forest ≡ memory_of old.forest

  -- the first entry was popped, or the last one, where a leaf has at most `most` entries
  abbrev pub FirstPopped : ℕ → Option (K × V) → Held K V → Held K V → Type 0
  FirstPopped most entry old new = Pops most old.forest old.number 0 entry new.forest new.number

  abbrev pub LastPopped : ℕ → Option (K × V) → Held K V → Held K V → Type 0
  LastPopped most entry old new = Pops most old.forest old.number (length (entries old) - 1) entry new.forest new.number

  module _ (order : K → K → Ordering) where
    -- the value of the key k became v where k is present
    abbrev pub Updated : K → V → Option V → Held K V → Held K V → Type 0
    Updated k v result old new = Updates (returning v) order old.forest old.number k tt result new.forest new.number

    -- each key that is not less than `from` became the new key of its pair, and the handle stays
    abbrev pub Shifted : K → List (K × K) → Held K V → Held K V → Type 0
    Shifted from keys old new =
        Shifts (λ k k'. k' ≡ new_key order keys k) (place order (entries old) from) old.forest old.number new.forest × (new.number ≡ old.number)

  -- `most` is the number of entries that a leaf has at most
  module _ (most : ℕ) (order : K → K → Ordering) where
    -- v was inserted at the key k where k is absent
    abbrev pub GotOrInserted : K → V → Result V OutOfMemory → Held K V → Held K V → Type 0
    GotOrInserted k v result old new = GetsOrInserts most order old.forest old.number k v result new.forest new.number

    -- the value of the key k became `put` where k is present, and v was inserted where it is absent
    abbrev pub UpdatedOrInserted : K → V → V → Result V OutOfMemory → Held K V → Held K V → Type 0
    UpdatedOrInserted k v put result old new =
        UpdatesOrInserts most order (returning put) old.forest old.number k v tt result new.forest new.number

    -- a step of a writing cursor that only reads is a step of a reading cursor
    abbrev pub Looks : Held K V → ℕ → Look K → Seen K V → Held K V → ℕ → Type 0
    Looks old p step sight new q = (sight ≡ sight_of order (entries old) p step) × (new ≡ old) × (q ≡ place_after order (entries old) p step)

    -- One step of a writing cursor, from a place: its answer, what it leaves, and the place afterwards.
    abbrev pub Acts : Held K V → ℕ → Act K V → Seen K V → Held K V → ℕ → Type 0
    Acts old p act.Empty sight new q = Looks old p look.Empty sight new q
    Acts old p act.Next sight new q = Looks old p look.Next sight new q
    Acts old p act.Prev sight new q = Looks old p look.Prev sight new q
    Acts old p act.Key sight new q = Looks old p look.Key sight new q
    Acts old p act.Value sight new q = Looks old p look.Value sight new q
    Acts old p (act.Goto k) sight new q = Looks old p (look.Goto k) sight new q
    Acts old p act.First sight new q = Looks old p look.First sight new q
    Acts old p (act.Put k v) sight new q =
        (result : Result (Option V) OutOfMemory) × (sight ≡ seen.Put result) × Inserts most order old.forest old.number k v result new.forest new.number × (q ≡ place order (entries old) k)
    Acts old p (act.Write v) sight new q = (sight ≡ seen.Flag (is_some (slice_get (entries old) p))) × WritesAt old p v new × (q ≡ p)
    Acts old p act.Remove sight new q =
        (sight ≡ seen.Pair (slice_get (entries old) p)) × RemovesAt most old.forest old.number p new.forest new.number × (q ≡ p)

    -- the steps of a writing cursor, each from where the step before left it
    abbrev pub Script : Held K V → ℕ → List (Act K V) → List (Seen K V) → Held K V → ℕ → Type 0
    Script old p [] [] new q = (new ≡ old) × (q ≡ p)
    Script old p (step ∷ steps) (sight ∷ sights) new q =
        (mid : Held K V) × (m : ℕ) × Acts old p step sight mid m × Script mid m steps sights new q × StillAddsUp most old.forest mid.forest
    Script old p [] (sight ∷ sights) new q = ⊥
    Script old p (step ∷ steps) [] new q = ⊥

    -- the steps of a writing cursor that starts at the end
    abbrev pub Edits : List (Act K V) → List (Seen K V) → Held K V → Held K V → Type 0
    Edits steps sights old new = (q : ℕ) × Script old (length (entries old)) steps sights new q

    -- the predicate is asked of each entry once, in order
    abbrev pub Retained : List K → Option V → Held K V → Held K V → Type 0
    Retained keys put old new = Filters most (KeepsIf order keys put) old.forest old.number tt new.forest new.number
