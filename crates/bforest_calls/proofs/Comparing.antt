-- The tests of a call, and a call from what its handles and its comparator tell.
use Rattle.bforest.specs.Calls.{Compacts, Inserts, Intersects, Removes, RemovesBetween, Subtracts, Unites}
use Rattle.bforest_calls.specs.Beside.{IsBeside, MakesBeside}
use Rattle.bforest_calls.specs.Compared.{IsComparing, IsListed, IsOfMaps, Makes}
use Rattle.bforest_calls.specs.Alone.{IsAlone, MakesAlone}
use Rattle.bforest_calls.specs.Machine.{AsksRoom, Compares, ComparesBoth, Lacks, Names, On, Orders, Passes, Refuses, State, Step, Tests, number_at, order_at}
use Rattle.bforest_calls.specs.State.{Edits, FirstPopped, GotOrInserted, Held, LastPopped, Shifted, Updated, UpdatedOrInserted}
use Rattle.bforest_calls.specs.declared.call.Answer.TheVariants as answer
use Rattle.bforest_calls.specs.declared.call.Answer.{Answer}
use Rattle.bforest_calls.specs.declared.call.Call.TheVariants as call
use Rattle.bforest_calls.specs.declared.call.Call.{Call}
use Rattle.std.proofs.Common.{Bool, None, ap, false, inl, inr, length, subst, sym, true, ◌<◌, ◌∙◌, ◌≡◌, ℕ}
use Rattle.std.proofs.Math.ListN.{set}
use Rattle.std.proofs.lemmas.List.{set-get_or}

module _ {K V : Type 0} where
  -- a call with more to test is refused where fewer tests refuse it
  pub refuses-too : {there all : Type 0} (live ordered ordered' : Type 0) (given : Answer K V) → (all → there) → (there → all) → (ordered' → ordered)
      → Refuses there live ordered given → Refuses all live ordered' given
  refuses-too live ordered ordered' answer.NoIndex first more up r = λ w. r (first w)
  refuses-too live ordered ordered' answer.Dead first more up r = (more r.0, r.1)
  refuses-too live ordered ordered' answer.Unordered first more up r = (more r.0, r.1, λ o. r.2 (up o))
  refuses-too live ordered ordered' given first more up r = absurd r

  pub refuses-more : (there more live ordered : Type 0) (given : Answer K V) → more → Refuses there live (Unit {0}) given
      → Refuses (there × more) live ordered given
  refuses-more there more live ordered given m r = refuses-too live (Unit {0}) ordered given (λ w. w.0) (λ t. (t, m)) (λ o. tt) r

  -- what is made is told otherwise
  then : {there live ordered M N : Type 0} {old new : State K V} (given : Answer K V) → (M → N) → Tests there live ordered old given new M
      → Tests there live ordered old given new N
  then given f t = elim t [ inl w ↦ inl w | inr w ↦ inr (w.0, w.1, w.2, f w.3) ]

  -- a change of handle h that leaves it and its forest as they were changes nothing
  looks : {P : Type 0} (h : ℕ) (old new : State K V) → On h old new (λ held after. P × (after ≡ held)) → P × (new ≡ old)
  looks h old new w =
      let handles : new.handles ≡ old.handles = w.1 ∙ ap (λ (s : Held K V). set old.handles h s.number) w.2.1 ∙ set-get_or old.handles h None in
      (w.2.0, λ j. record { forest = (w.2.1 j).forest; handles = handles j })

  -- the change with a fact of the answer in front
  changes-so : {P : Type 0} (R : Held K V → Held K V → Type 0) (h : ℕ) (old new : State K V) → On h old new (λ held after. P × R held after) → P × On h old new R
  changes-so R h old new w = (w.2.0, (w.0, w.1, w.2.1))

  -- the change with its result in front
  changes : {X : Type 0} {P : X → Type 0} (R : X → Held K V → Held K V → Type 0) (h : ℕ) (old new : State K V)
      → On h old new (λ held after. (x : X) × P x × R x held after) → (x : X) × P x × On h old new (R x)
  changes R h old new w = (w.2.0, w.2.1, (w.0, w.1, w.2.2))

module _ {K V : Type 0} (reads : Bool) (orders : Orders K) (h c : ℕ) (state : State K V) (passes : Passes orders state h c) where
  on : (a b : ℕ) → a ≡ h → b ≡ c → Passes orders state a b
  on a b handle order = subst (λ n. Passes orders state n b) (sym handle) (subst (λ n. Passes orders state h n) (sym order) passes)

  -- a call that passes its tests and is answered by a list requests memory for it
  pub asks-room : (call : Call K V) → IsComparing reads h c call → IsListed call → AsksRoom reads orders state call
  asks-room (call.Read a b steps) w listed = (w.2, listed, on a b w.0 w.1)
  asks-room (call.Edit a b steps) w listed = (listed, on a b w.0 w.1)
  asks-room (call.Range a b lo hi ends) w listed = (listed, on a b w.0 w.1)
  asks-room other w listed = absurd listed

module _ {K V : Type 0} (most : ℕ) (reads : Bool) (orders : Orders K) (h c : ℕ) (old : State K V) (given : Answer K V) (new : State K V) where
  at : (P : ℕ → ℕ → Type 0) → P h c → (a b : ℕ) → a ≡ h → b ≡ c → P a b
  at P x a b is-a is-b = subst (λ n. P n b) (sym is-a) (subst (λ n. P h n) (sym is-b) x)

  -- a call that compares keys, from what is made on its handle
  pub step-of : (made : Call K V) → IsComparing reads h c made
      → Compares orders h c old given new (On h old new (λ held after. Makes most (order_at orders c) made held given after))
      → Step most reads orders old made given new
  step-of (call.Get a b k) is t = at (λ m n. Step most reads orders old (call.Get m n k) given new) (then given (looks h old new) t) a b is.0 is.1
  step-of (call.GetOrLess a b k) is t = at (λ m n. Step most reads orders old (call.GetOrLess m n k) given new) (then given (looks h old new) t) a b is.0 is.1
  step-of (call.GetOrGreater a b k) is t = at (λ m n. Step most reads orders old (call.GetOrGreater m n k) given new) (then given (looks h old new) t) a b is.0 is.1
  step-of (call.Insert a b k v) is t = at (λ m n. Step most reads orders old (call.Insert m n k v) given new)
      (then given (changes (λ result held after. Inserts most (order_at orders c) held.forest held.number k v result after.forest after.number) h old new) t)
      a b is.0 is.1
  step-of (call.GetOrInsert a b k v) is t =
      subst (λ r. Step most r orders old (call.GetOrInsert a b k v) given new) (sym is.2)
      (at (λ m n. Step most true orders old (call.GetOrInsert m n k v) given new) (then given (changes (GotOrInserted most (order_at orders c) k v) h old new) t)
      a b is.0 is.1)
  step-of (call.Update a b k v) is t =
      subst (λ r. Step most r orders old (call.Update a b k v) given new) (sym is.2)
      (at (λ m n. Step most true orders old (call.Update m n k v) given new) (then given (changes (Updated (order_at orders c) k v) h old new) t) a b is.0 is.1)
  step-of (call.UpdateOrInsert a b k v put) is t =
      subst (λ r. Step most r orders old (call.UpdateOrInsert a b k v put) given new) (sym is.2)
      (at (λ m n. Step most true orders old (call.UpdateOrInsert m n k v put) given new)
      (then given (changes (UpdatedOrInserted most (order_at orders c) k v put) h old new) t) a b is.0 is.1)
  step-of (call.Shift a b from keys) is t = at (λ m n. Step most reads orders old (call.Shift m n from keys) given new)
      (then given (changes-so (Shifted (order_at orders c) from keys.items) h old new) t) a b is.0 is.1
  step-of (call.Remove a b k) is t = at (λ m n. Step most reads orders old (call.Remove m n k) given new)
      (then given (changes (λ value held after. Removes most (order_at orders c) held.forest held.number k value after.forest after.number) h old new) t)
      a b is.0 is.1
  step-of (call.Read a b steps) is t =
      subst (λ r. Step most r orders old (call.Read a b steps) given new) (sym is.2)
      (at (λ m n. Step most true orders old (call.Read m n steps) given new) (then given (looks h old new) t) a b is.0 is.1)
  step-of (call.Edit a b steps) is t = at (λ m n. Step most reads orders old (call.Edit m n steps) given new)
      (then given (changes (λ sights held after. Edits most (order_at orders c) steps.items sights.items held after) h old new) t) a b is.0 is.1
  step-of (call.Range a b lo hi ends) is t = at (λ m n. Step most reads orders old (call.Range m n lo hi ends) given new)
      (then given (looks h old new) t) a b is.0 is.1
  step-of (call.RemoveRange a b lo hi) is t = at (λ m n. Step most reads orders old (call.RemoveRange m n lo hi) given new)
      (then given (changes (λ changed held after. RemovesBetween most (order_at orders c) lo hi held.forest held.number changed after.forest after.number) h old new) t)
      a b is.0 is.1
  step-of other is t = absurd is

  -- a call that is not offered, from the tests of its indices
  pub step-lacking : (made : Call K V) → IsOfMaps h c made → Lacks ((h < length old.handles) × (c < length orders)) old given new
      → Step most false orders old made given new
  step-lacking (call.GetOrInsert a b k v) is l = at (λ m n. Step most false orders old (call.GetOrInsert m n k v) given new) l a b is.0 is.1
  step-lacking (call.Update a b k v) is l = at (λ m n. Step most false orders old (call.Update m n k v) given new) l a b is.0 is.1
  step-lacking (call.UpdateOrInsert a b k v put) is l = at (λ m n. Step most false orders old (call.UpdateOrInsert m n k v put) given new) l a b is.0 is.1
  step-lacking (call.Read a b steps) is l = at (λ m n. Step most false orders old (call.Read m n steps) given new) l a b is.0 is.1
  step-lacking other is l = absurd is

module _ {K V : Type 0} (most : ℕ) (reads : Bool) (orders : Orders K) (h : ℕ) (old : State K V) (given : Answer K V) (new : State K V) where
  -- a call that compares no key, from what is made on its handle
  pub step-alone : (made : Call K V) → IsAlone h made → Names h old given new (On h old new (λ held after. MakesAlone most made held given after))
      → Step most reads orders old made given new
  step-alone (call.First a) is t = rw is (then given (looks h old new) t)
  step-alone (call.Last a) is t = rw is (then given (looks h old new) t)
  step-alone (call.PopFirst a) is t = rw is (then given (changes (FirstPopped most) h old new) t)
  step-alone (call.PopLast a) is t = rw is (then given (changes (LastPopped most) h old new) t)
  step-alone (call.Len a) is t = rw is (then given (looks h old new) t)
  step-alone (call.Compact a) is t = rw is (then given (changes (λ result held after. Compacts most held.forest held.number result after.forest after.number) h old new) t)
  step-alone other is t = absurd is

module _ {K V : Type 0} (most : ℕ) (reads : Bool) (orders : Orders K) (h o c : ℕ) (old : State K V) (given : Answer K V) (new : State K V) where
  -- a call that compares the keys of two lists, from what is made on the first one's handle
  pub step-beside : (made : Call K V) → IsBeside h o c made
      → ComparesBoth orders h o c old given new (On h old new (λ held after. MakesBeside most (order_at orders c) (number_at old o) made held given after))
      → Step most reads orders old made given new
  step-beside (call.Unite a b d) is t = rw (is.0, is.1, is.2) (then given (changes (λ result held after. Unites most (order_at orders c) held.forest held.number (number_at old o) result after.forest after.number) h old new) t)
  step-beside (call.Intersect a b d) is t = rw (is.0, is.1, is.2) (then given (changes (λ changed held after. Intersects most (order_at orders c) held.forest held.number (number_at old o) changed after.forest after.number) h old new) t)
  step-beside (call.Subtract a b d) is t = rw (is.0, is.1, is.2) (then given (changes (λ changed held after. Subtracts most (order_at orders c) held.forest held.number (number_at old o) changed after.forest after.number) h old new) t)
  step-beside (call.IsSubset a b d) is t = rw (is.0, is.1, is.2) (then given (looks h old new) t)
  step-beside (call.IsDisjoint a b d) is t = rw (is.0, is.1, is.2) (then given (looks h old new) t)
  step-beside other is t = absurd is
