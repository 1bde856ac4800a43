-- A run with two handles exchanged.
use Rattle.bforest.specs.Calls.{Clears, Clones, Compacts, Inserts, Intersects, Removes, RemovesBetween, SplitsOff, Subtracts, Unites}
use Rattle.bforest.specs.Forest.{IsLive, list_of}
use Rattle.bforest.specs.Bounds.{entries_between, entry_at_least, entry_at_most}
use Rattle.bforest.specs.Union.{are_among, are_apart}
use Rattle.bforest_calls.specs.Looks.{all_taken, sights_of}
use Rattle.bforest_calls.specs.Machine.{Compares, ComparesBoth, ComparesIf, Lacks, Names, NamesBoth, Offered, On, Orders, Refuses, Run, State, Step, Tests, list_in, number_at, order_at, with_made}
use Rattle.bforest_calls.specs.State.{Edits, FirstPopped, GotOrInserted, Held, LastPopped, Retained, Shifted, Updated, UpdatedOrInserted}
use Rattle.bforest_calls.specs.declared.call.Answer.TheVariants as answer
use Rattle.bforest_calls.specs.declared.call.Answer.{Answer}
use Rattle.bforest_calls.specs.declared.call.Call.TheVariants as call
use Rattle.bforest_calls.specs.declared.call.Call.{Call}
use Rattle.bforest_calls_tests.proofs.Exchange.{at-exchange, exchange-twice, exchange-within, swap-aliases, swap-set, within-exchange}
use Rattle.bforest_calls_tests.proofs.Sparing.{lacking, offered}
use Rattle.bforest_calls_tests.specs.Exchange.{AreAliases, exchange, exchanged}
use Rattle.bforest.specs.Refusal.{OutOfMemory}
use Rattle.bforest.specs.Entries.{IsIncreasing, value_for}
use Rattle.std.proofs.Common.{Bool, Err, List, None, Ok, Option, Result, [], ap, false, inl, inr, length, map, refl, reverse, slice_get, subst, sym, true, ◌-◌, ◌<◌, ◌∙◌, ◌∷◌, ◌≡◌, ◌≢◌, ℕ}
use Rattle.std.proofs.lemmas.List.{length-set}
use Rattle.std.specs.Prelude.{slice_set, swap}

-- a call that is offered or not, from both cases
offered-too : (reads : Bool) (Made Lacking Made' Lacking' : Type 0) → (Made → Made') → (Lacking → Lacking') → Offered reads Made Lacking → Offered reads Made' Lacking'
offered-too true Made Lacking Made' Lacking' made lacks o = made o
offered-too false Made Lacking Made' Lacking' made lacks o = lacks o

module _ {K V : Type 0} where
  -- a refusal stays one under equivalent tests
  refused-too : {X : Type 0} (there there' : Type 0) (L O : X → Type 0) (n n' : X) (given : Answer K V) → n' ≡ n → (there → there') → (there' → there)
      → Refuses there (L n) (O n) given → Refuses there' (L n') (O n') given
  refused-too there there' L O n n' answer.NoIndex e to back r = λ t. r (back t)
  refused-too there there' L O n n' answer.Dead e to back r = (to r.0, λ l. r.1 (subst L e l))
  refused-too there there' L O n n' answer.Unordered e to back r = (to r.0, subst L (sym e) r.1, λ o. r.2 (subst O e o))
  refused-too there there' L O n n' given e to back r = absurd r

  -- tests of a number stay the same under an equal number
  tested-too : {X : Type 0} (there there' : Type 0) (L O : X → Type 0) (n n' : X) (old new old' new' : State K V) (given : Answer K V) (Made Made' : Type 0)
      → n' ≡ n → (there → there') → (there' → there) → (new ≡ old → new' ≡ old') → (there → Made → Made')
      → Tests there (L n) (O n) old given new Made → Tests there' (L n') (O n') old' given new' Made'
  tested-too there there' L O n n' old new old' new' given Made Made' e to back stays made (inl r) = inl (refused-too there there' L O n n' given e to back r.0, stays r.1)
  tested-too there there' L O n n' old new old' new' given Made Made' e to back stays made (inr r) = inr (to r.0, subst L (sym e) r.1, subst O (sym e) r.2, made r.0 r.3)

  lacks-too : (there there' : Type 0) (old new old' new' : State K V) (given : Answer K V) → (there → there') → (there' → there) → (new ≡ old → new' ≡ old')
      → Lacks there old given new → Lacks there' old' given new'
  lacks-too there there' old new old' new' answer.NoIndex to back stays l = (λ t. l.0 (back t), stays l.1)
  lacks-too there there' old new old' new' answer.NotOffered to back stays l = (to l.0, stays l.1)
  lacks-too there there' old new old' new' given to back stays l = absurd l

  -- a state with two handles exchanged
  abbrev turned : ℕ → ℕ → State K V → State K V
  turned i j state = record state { handles = swap state.handles i j }

  module _ (i j : ℕ) (old new : State K V) (within : i < length old.handles) (within' : j < length old.handles) where
    number : (h : ℕ) → number_at (turned i j old) (exchange i j h) ≡ number_at old h
    number h = at-exchange old.handles i j within within' h

    stays : new ≡ old → turned i j new ≡ turned i j old
    stays e = ap (turned i j) e

    -- a change of one handle is a change of the exchanged handle
    on-exchanged : (h : ℕ) (R : Held K V → Held K V → Type 0) → h < length old.handles → On h old new R → On (exchange i j h) (turned i j old) (turned i j new) R
    on-exchanged h R w on = (
      on.0,
      ap (λ hs. swap hs i j) on.1 ∙ swap-set old.handles i j within within' h on.0 w,
      subst (λ (n : Option ℕ). R (record { forest = old.forest; number = n }) (record { forest = new.forest; number = on.0 })) (sym (number h)) on.2,
    )

    -- a change of handle h, for which the tree of handle o is read, is one of the exchanged handles
    beside-exchanged : (h o : ℕ) (R : Option ℕ → Held K V → Held K V → Type 0) → h < length old.handles → On h old new (R (number_at old o))
        → On (exchange i j h) (turned i j old) (turned i j new) (R (number_at (turned i j old) (exchange i j o)))
    beside-exchanged h o R w on =
        subst (λ (n : Option ℕ). On (exchange i j h) (turned i j old) (turned i j new) (R n)) (sym (number o)) (on-exchanged h (R (number_at old o)) w on)

    -- the exchanged index of an index in range is in range
    here : (h : ℕ) → h < length old.handles → exchange i j h < length (swap old.handles i j)
    here h = exchange-within old.handles i j within within' h

    back : (h : ℕ) → exchange i j h < length (swap old.handles i j) → h < length old.handles
    back h = within-exchange old.handles i j within within' h

    -- an answer that depends on the list of a handle alone stays with the exchanged handle
    told : {A : Type 0} (given : A) (h : ℕ) (F : List (K × V) → A) → given ≡ F (list_in old h) → given ≡ F (list_in (turned i j old) (exchange i j h))
    told given h F e = e ∙ ap (λ (n : Option ℕ). F (list_of old.forest n)) (sym (number h))

    -- the same of the lists of two handles
    told-both : {A : Type 0} (given : A) (h o : ℕ) (F : List (K × V) → List (K × V) → A) → given ≡ F (list_in old h) (list_in old o)
        → given ≡ F (list_in (turned i j old) (exchange i j h)) (list_in (turned i j old) (exchange i j o))
    told-both given h o F e = e ∙ (λ z. F (list_of old.forest (sym (number h) z)) (list_of old.forest (sym (number o) z)))

    -- two indices are equal where the exchanged ones are
    one-index : (a b : ℕ) → exchange i j a ≡ exchange i j b → a ≡ b
    one-index a b e = sym (exchange-twice i j a) ∙ ap (exchange i j) e ∙ exchange-twice i j b

    module _ (orders : Orders K) (given : Answer K V) where
      names-too : (h : ℕ) (Made Made' : Type 0) → (h < length old.handles → Made → Made') → Names h old given new Made → Names (exchange i j h) (turned i j old) given (turned i j new) Made'
      names-too h Made Made' made s =
          tested-too (h < length old.handles) (exchange i j h < length (swap old.handles i j)) (λ n. IsLive old.forest n) (λ n. Unit {0}) (number_at old h) (number_at (turned i j old) (exchange i j h))
          old new (turned i j old) (turned i j new) given Made Made' (number h) (here h) (back h) stays made s

      names-both-too : (h c : ℕ) (Made Made' : Type 0) → (h < length old.handles → Made → Made') → NamesBoth orders h c old given new Made
          → NamesBoth orders (exchange i j h) c (turned i j old) given (turned i j new) Made'
      names-both-too h c Made Made' made s =
          tested-too ((h < length old.handles) × (c < length orders)) ((exchange i j h < length (swap old.handles i j)) × (c < length orders)) (λ n. IsLive old.forest n) (λ n. Unit {0})
          (number_at old h) (number_at (turned i j old) (exchange i j h)) old new (turned i j old) (turned i j new) given Made Made' (number h)
          (λ t. (here h t.0, t.1)) (λ t. (back h t.0, t.1)) stays (λ t m. made t.0 m) s

      compares-too : (h c : ℕ) (Made Made' : Type 0) → (h < length old.handles → Made → Made') → Compares orders h c old given new Made
          → Compares orders (exchange i j h) c (turned i j old) given (turned i j new) Made'
      compares-too h c Made Made' made s =
          tested-too ((h < length old.handles) × (c < length orders)) ((exchange i j h < length (swap old.handles i j)) × (c < length orders)) (λ n. IsLive old.forest n)
          (λ n. IsIncreasing (order_at orders c) (list_of old.forest n))
          (number_at old h) (number_at (turned i j old) (exchange i j h)) old new (turned i j old) (turned i j new) given Made Made' (number h)
          (λ t. (here h t.0, t.1)) (λ t. (back h t.0, t.1)) stays (λ t m. made t.0 m) s

      compares-both-too : (h o c : ℕ) (Made Made' : Type 0) → (h < length old.handles → Made → Made') → ComparesBoth orders h o c old given new Made
          → ComparesBoth orders (exchange i j h) (exchange i j o) c (turned i j old) given (turned i j new) Made'
      compares-both-too h o c Made Made' made s =
          tested-too ((h < length old.handles) × (o < length old.handles) × (c < length orders))
          ((exchange i j h < length (swap old.handles i j)) × (exchange i j o < length (swap old.handles i j)) × (c < length orders))
          (λ (ns : Option ℕ × Option ℕ). IsLive old.forest ns.0 × IsLive old.forest ns.1)
          (λ (ns : Option ℕ × Option ℕ). IsIncreasing (order_at orders c) (list_of old.forest ns.0) × IsIncreasing (order_at orders c) (list_of old.forest ns.1))
          (number_at old h, number_at old o) (number_at (turned i j old) (exchange i j h), number_at (turned i j old) (exchange i j o))
          old new (turned i j old) (turned i j new) given Made Made' (λ z. (number h z, number o z))
          (λ t. (here h t.0, here o t.1, t.2)) (λ t. (back h t.0, back o t.1, t.2)) stays (λ t m. made t.0 m) s

    module _ (most : ℕ) (reads : Bool) (orders : Orders K) where
      -- a call that only maps offer
      if-offered : (given : Answer K V) (h c : ℕ) (Made Made' : Type 0) → (h < length old.handles → Made → Made') → ComparesIf reads orders h c old given new Made
          → ComparesIf reads orders (exchange i j h) c (turned i j old) given (turned i j new) Made'
      if-offered given h c Made Made' made s = offered-too reads _ _ _ _ (compares-too orders given h c _ _ made)
          (lacks-too ((h < length old.handles) × (c < length orders)) ((exchange i j h < length (swap old.handles i j)) × (c < length orders)) old new (turned i j old) (turned i j new) given
          (λ t. (here h t.0, t.1)) (λ t. (back h t.0, t.1)) stays) s

      -- the handles with a tree that was made, or not
      with-exchanged : (h : ℕ) (result : Result (Option ℕ) OutOfMemory) → h < length old.handles → new.handles ≡ with_made h result old.handles
          → swap new.handles i j ≡ with_made (exchange i j h) result (swap old.handles i j)
      with-exchanged h (Ok n) w e = ap (λ hs. swap hs i j) e ∙ swap-set old.handles i j within within' h n w
      with-exchanged h (Err why) w e = ap (λ hs. swap hs i j) e

      -- the handles with a number written, and with a tree that was made, or not
      parted-exchanged : (h to : ℕ) (own : Option ℕ) (result : Result (Option ℕ) OutOfMemory) → h < length old.handles → to < length old.handles
          → new.handles ≡ with_made to result (slice_set old.handles h own) → swap new.handles i j ≡ with_made (exchange i j to) result (slice_set (swap old.handles i j) (exchange i j h) own)
      parted-exchanged h to own (Ok n) w w' e =
          let wide : (q : ℕ) → q < length old.handles → q < length (slice_set old.handles h own) = λ q. subst (λ n. q < n) (sym (length-set old.handles h own)) in
          ap (λ hs. swap hs i j) e ∙ swap-set (slice_set old.handles h own) i j (wide i within) (wide j within') to n (wide to w')
          ∙ ap (λ hs. slice_set hs (exchange i j to) n) (swap-set old.handles i j within within' h own w)
      parted-exchanged h to own (Err why) w w' e = ap (λ hs. swap hs i j) e ∙ swap-set old.handles i j within within' h own w

      step-exchanged : (call : Call K V) (given : Answer K V) → Step most reads orders old call given new → Step most reads orders (turned i j old) (exchanged i j call) given (turned i j new)
      step-exchanged (call.Get h c k) given s = compares-too orders given h c _ _ (λ t m. (told given h (λ es. answer.Value (value_for (order_at orders c) es k)) m.0, stays m.1)) s
      step-exchanged (call.GetOrLess h c k) given s = compares-too orders given h c _ _ (λ t m. (told given h (λ es. answer.Pair (entry_at_most (order_at orders c) es k)) m.0, stays m.1)) s
      step-exchanged (call.GetOrGreater h c k) given s = compares-too orders given h c _ _ (λ t m. (told given h (λ es. answer.Pair (entry_at_least (order_at orders c) es k)) m.0, stays m.1)) s
      step-exchanged (call.First h) given s = names-too orders given h _ _ (λ t m. (told given h (λ es. answer.Pair (slice_get es 0)) m.0, stays m.1)) s
      step-exchanged (call.Last h) given s = names-too orders given h _ _ (λ t m. (told given h (λ es. answer.Pair (slice_get es (length es - 1))) m.0, stays m.1)) s
      step-exchanged (call.Insert h c k v) given s = compares-too orders given h c _ _ (λ t m. (m.0, m.1, on-exchanged h (λ held after. Inserts most (order_at orders c) held.forest held.number k v m.0 after.forest after.number) t m.2)) s
      step-exchanged (call.GetOrInsert h c k v) given s = if-offered given h c _ _ (λ t m. (m.0, m.1, on-exchanged h (GotOrInserted most (order_at orders c) k v m.0) t m.2)) s
      step-exchanged (call.Update h c k v) given s = if-offered given h c _ _ (λ t m. (m.0, m.1, on-exchanged h (Updated (order_at orders c) k v m.0) t m.2)) s
      step-exchanged (call.UpdateOrInsert h c k v put) given s = if-offered given h c _ _ (λ t m. (m.0, m.1, on-exchanged h (UpdatedOrInserted most (order_at orders c) k v put m.0) t m.2)) s
      step-exchanged (call.Shift h c from keys) given s = compares-too orders given h c _ _ (λ t m. (m.0, on-exchanged h (Shifted (order_at orders c) from keys.items) t m.1)) s
      step-exchanged (call.Remove h c k) given s = compares-too orders given h c _ _ (λ t m. (m.0, m.1, on-exchanged h (λ held after. Removes most (order_at orders c) held.forest held.number k m.0 after.forest after.number) t m.2)) s
      step-exchanged (call.PopFirst h) given s = names-too orders given h _ _ (λ t m. (m.0, m.1, on-exchanged h (FirstPopped most m.0) t m.2)) s
      step-exchanged (call.PopLast h) given s = names-too orders given h _ _ (λ t m. (m.0, m.1, on-exchanged h (LastPopped most m.0) t m.2)) s
      step-exchanged (call.Len h) given s = names-too orders given h _ _ (λ t m. (told given h (λ es. answer.Count (length es)) m.0, stays m.1)) s
      step-exchanged (call.Compact h) given s = names-too orders given h _ _ (λ t m. (m.0, m.1, on-exchanged h (λ held after. Compacts most held.forest held.number m.0 after.forest after.number) t m.2)) s
      step-exchanged (call.RemoveRange h c lo hi) given s = compares-too orders given h c _ _
          (λ t m. (m.0, m.1, on-exchanged h (λ held after. RemovesBetween most (order_at orders c) lo hi held.forest held.number m.0 after.forest after.number) t m.2)) s
      step-exchanged (call.Unite h o c) given s = compares-both-too orders given h o c _ _
          (λ t m. (m.0, m.1, beside-exchanged h o (λ n held after. Unites most (order_at orders c) held.forest held.number n m.0 after.forest after.number) t m.2)) s
      step-exchanged (call.Intersect h o c) given s = compares-both-too orders given h o c _ _
          (λ t m. (m.0, m.1, beside-exchanged h o (λ n held after. Intersects most (order_at orders c) held.forest held.number n m.0 after.forest after.number) t m.2)) s
      step-exchanged (call.Subtract h o c) given s = compares-both-too orders given h o c _ _
          (λ t m. (m.0, m.1, beside-exchanged h o (λ n held after. Subtracts most (order_at orders c) held.forest held.number n m.0 after.forest after.number) t m.2)) s
      step-exchanged (call.IsSubset h o c) given s = compares-both-too orders given h o c _ _
          (λ t m. (told-both given h o (λ es others. answer.Holds (are_among (order_at orders c) es others)) m.0, stays m.1)) s
      step-exchanged (call.IsDisjoint h o c) given s = compares-both-too orders given h o c _ _
          (λ t m. (told-both given h o (λ es others. answer.Holds (are_apart (order_at orders c) es others)) m.0, stays m.1)) s
      step-exchanged (call.Clear h) given s = names-too orders given h _ _ (λ t m. (m.0, on-exchanged h (λ held after. Clears held.forest held.number after.forest after.number) t m.1)) s
      step-exchanged (call.Iter h) given s = names-too orders given h _ _ (λ t m. (m.0, m.1, told m.0.items h (λ es. es) m.2, stays m.3)) s
      step-exchanged (call.IterBack h) given s = names-too orders given h _ _ (λ t m. (m.0, m.1, told m.0.items h (λ es. reverse es) m.2, stays m.3)) s
      step-exchanged (call.Read h c steps) given s = if-offered given h c _ _ (λ t m. ((m.0.0, m.0.1, told m.0.0.items h (λ es. sights_of (order_at orders c) es (length es) steps.items) m.0.2), stays m.1)) s
      step-exchanged (call.Edit h c steps) given s = compares-too orders given h c _ _ (λ t m. (m.0, m.1, on-exchanged h (Edits most (order_at orders c) steps.items m.0.items) t m.2)) s
      step-exchanged (call.Range h c lo hi ends) given s = compares-too orders given h c _ _
          (λ t m. ((m.0.0, m.0.1, told m.0.0.items h (λ es. all_taken (entries_between (order_at orders c) lo hi es) ends.items) m.0.2), stays m.1)) s
      step-exchanged (call.Retain h c keys put) given s = names-both-too orders given h c _ _ (λ t m. (m.0, on-exchanged h (Retained most (order_at orders c) keys.items put) t m.1)) s
      step-exchanged (call.Alias from to) given s =
          tested-too {X = Option ℕ} ((from < length old.handles) × (to < length old.handles)) ((exchange i j from < length (swap old.handles i j)) × (exchange i j to < length (swap old.handles i j)))
          (λ n. Unit {0}) (λ n. Unit {0}) None None old new (turned i j old) (turned i j new) given _ _ refl (λ t. (here from t.0, here to t.1)) (λ t. (back from t.0, back to t.1)) stays
          (λ t m. (
            m.0,
            ap (turned i j) m.1 ∙ (λ z. record old {
              handles = (swap-set old.handles i j within within' to (number_at old from) t.1 ∙ ap (slice_set (swap old.handles i j) (exchange i j to)) (sym (number from))) z;
            }),
          )) s
      step-exchanged (call.DeepClone from to) given s =
          tested-too ((from < length old.handles) × (to < length old.handles)) ((exchange i j from < length (swap old.handles i j)) × (exchange i j to < length (swap old.handles i j)))
          (λ n. IsLive old.forest n) (λ n. Unit {0}) (number_at old from) (number_at (turned i j old) (exchange i j from)) old new (turned i j old) (turned i j new) given _ _ (number from)
          (λ t. (here from t.0, here to t.1)) (λ t. (back from t.0, back to t.1)) stays
          (λ t m. (m.0, m.1, with-exchanged to m.0 t.1 m.2, subst (λ (n : Option ℕ). Clones old.forest n m.0 new.forest) (sym (number from)) m.3)) s
      step-exchanged (call.SplitOff h c k to) given s =
          tested-too ((h < length old.handles) × (c < length orders) × (to < length old.handles) × (to ≢ h))
          ((exchange i j h < length (swap old.handles i j)) × (c < length orders) × (exchange i j to < length (swap old.handles i j)) × (exchange i j to ≢ exchange i j h))
          (λ n. IsLive old.forest n) (λ n. IsIncreasing (order_at orders c) (list_of old.forest n))
          (number_at old h) (number_at (turned i j old) (exchange i j h)) old new (turned i j old) (turned i j new) given _ _ (number h)
          (λ t. (here h t.0, t.1, here to t.2, λ e. t.3 (one-index to h e))) (λ t. (back h t.0, t.1, back to t.2, λ e. t.3 (ap (exchange i j) e))) stays
          (λ t m. (
            m.0,
            m.1,
            m.2,
            parted-exchanged h to m.0 m.1 t.0 t.2 m.3,
            subst (λ (n : Option ℕ). SplitsOff most (order_at orders c) old.forest n k m.1 new.forest m.0) (sym (number h)) m.4,
          )) s
      step-exchanged (call.Load h entries) given s =
          tested-too {X = Option ℕ} (h < length old.handles) (exchange i j h < length (swap old.handles i j)) (λ n. Unit {0}) (λ n. Unit {0}) None None old new (turned i j old) (turned i j new) given _ _ refl
          (here h) (back h) stays (λ t m. (m.0, m.1, with-exchanged h m.0 t m.2, m.3)) s
      step-exchanged call.ForestClear given s = (s.0, ap (turned i j) s.1)

  module _ (most : ℕ) (reads : Bool) (orders : Orders K) where
    kept : (old new : State K V) → new ≡ old → length new.handles ≡ length old.handles
    kept old new e = ap (λ (s : State K V). length s.handles) e

    wrote : (old new : State K V) (h : ℕ) (n : Option ℕ) → new.handles ≡ slice_set old.handles h n → length new.handles ≡ length old.handles
    wrote old new h n e = ap (λ (hs : List (Option ℕ)). length hs) e ∙ length-set old.handles h n

    with-many : (old new : State K V) (h : ℕ) (result : Result (Option ℕ) OutOfMemory) → new.handles ≡ with_made h result old.handles → length new.handles ≡ length old.handles
    with-many old new h (Ok n) e = wrote old new h n e
    with-many old new h (Err why) e = ap (λ (hs : List (Option ℕ)). length hs) e

    parted-many : (old new : State K V) (h to : ℕ) (number : Option ℕ) (result : Result (Option ℕ) OutOfMemory) → new.handles ≡ with_made to result (slice_set old.handles h number)
        → length new.handles ≡ length old.handles
    parted-many old new h to number (Ok n) e = ap (λ (hs : List (Option ℕ)). length hs) e ∙ length-set (slice_set old.handles h number) to n ∙ length-set old.handles h number
    parted-many old new h to number (Err why) e = wrote old new h number e

    -- a step keeps the number of handles
    as-many : (old : State K V) (call : Call K V) (given : Answer K V) (new : State K V) → Step most reads orders old call given new → length new.handles ≡ length old.handles
    as-many old (call.Get h c k) given new s = elim s [ inl r ↦ kept old new r.1 | inr r ↦ kept old new r.3.1 ]
    as-many old (call.GetOrLess h c k) given new s = elim s [ inl r ↦ kept old new r.1 | inr r ↦ kept old new r.3.1 ]
    as-many old (call.GetOrGreater h c k) given new s = elim s [ inl r ↦ kept old new r.1 | inr r ↦ kept old new r.3.1 ]
    as-many old (call.First h) given new s = elim s [ inl r ↦ kept old new r.1 | inr r ↦ kept old new r.3.1 ]
    as-many old (call.Last h) given new s = elim s [ inl r ↦ kept old new r.1 | inr r ↦ kept old new r.3.1 ]
    as-many old (call.Insert h c k v) given new s = elim s [ inl r ↦ kept old new r.1 | inr r ↦ wrote old new h r.3.2.0 r.3.2.1 ]
    as-many old (call.GetOrInsert h c k v) given new s =
        offered reads (λ t. elim t [ inl r ↦ kept old new r.1 | inr r ↦ wrote old new h r.3.2.0 r.3.2.1 ]) (λ l. kept old new (lacking _ old given new l)) s
    as-many old (call.Update h c k v) given new s =
        offered reads (λ t. elim t [ inl r ↦ kept old new r.1 | inr r ↦ wrote old new h r.3.2.0 r.3.2.1 ]) (λ l. kept old new (lacking _ old given new l)) s
    as-many old (call.UpdateOrInsert h c k v put) given new s =
        offered reads (λ t. elim t [ inl r ↦ kept old new r.1 | inr r ↦ wrote old new h r.3.2.0 r.3.2.1 ]) (λ l. kept old new (lacking _ old given new l)) s
    as-many old (call.Shift h c from keys) given new s = elim s [ inl r ↦ kept old new r.1 | inr r ↦ wrote old new h r.3.1.0 r.3.1.1 ]
    as-many old (call.Remove h c k) given new s = elim s [ inl r ↦ kept old new r.1 | inr r ↦ wrote old new h r.3.2.0 r.3.2.1 ]
    as-many old (call.PopFirst h) given new s = elim s [ inl r ↦ kept old new r.1 | inr r ↦ wrote old new h r.3.2.0 r.3.2.1 ]
    as-many old (call.PopLast h) given new s = elim s [ inl r ↦ kept old new r.1 | inr r ↦ wrote old new h r.3.2.0 r.3.2.1 ]
    as-many old (call.Len h) given new s = elim s [ inl r ↦ kept old new r.1 | inr r ↦ kept old new r.3.1 ]
    as-many old (call.Compact h) given new s = elim s [ inl r ↦ kept old new r.1 | inr r ↦ wrote old new h r.3.2.0 r.3.2.1 ]
    as-many old (call.RemoveRange h c lo hi) given new s = elim s [ inl r ↦ kept old new r.1 | inr r ↦ wrote old new h r.3.2.0 r.3.2.1 ]
    as-many old (call.Unite h o c) given new s = elim s [ inl r ↦ kept old new r.1 | inr r ↦ wrote old new h r.3.2.0 r.3.2.1 ]
    as-many old (call.Intersect h o c) given new s = elim s [ inl r ↦ kept old new r.1 | inr r ↦ wrote old new h r.3.2.0 r.3.2.1 ]
    as-many old (call.Subtract h o c) given new s = elim s [ inl r ↦ kept old new r.1 | inr r ↦ wrote old new h r.3.2.0 r.3.2.1 ]
    as-many old (call.IsSubset h o c) given new s = elim s [ inl r ↦ kept old new r.1 | inr r ↦ kept old new r.3.1 ]
    as-many old (call.IsDisjoint h o c) given new s = elim s [ inl r ↦ kept old new r.1 | inr r ↦ kept old new r.3.1 ]
    as-many old (call.Clear h) given new s = elim s [ inl r ↦ kept old new r.1 | inr r ↦ wrote old new h r.3.1.0 r.3.1.1 ]
    as-many old (call.Iter h) given new s = elim s [ inl r ↦ kept old new r.1 | inr r ↦ kept old new r.3.3 ]
    as-many old (call.IterBack h) given new s = elim s [ inl r ↦ kept old new r.1 | inr r ↦ kept old new r.3.3 ]
    as-many old (call.Read h c steps) given new s = offered reads (λ t. elim t [ inl r ↦ kept old new r.1 | inr r ↦ kept old new r.3.1 ]) (λ l. kept old new (lacking _ old given new l)) s
    as-many old (call.Edit h c steps) given new s = elim s [ inl r ↦ kept old new r.1 | inr r ↦ wrote old new h r.3.2.0 r.3.2.1 ]
    as-many old (call.Range h c lo hi ends) given new s = elim s [ inl r ↦ kept old new r.1 | inr r ↦ kept old new r.3.1 ]
    as-many old (call.Retain h c keys put) given new s = elim s [ inl r ↦ kept old new r.1 | inr r ↦ wrote old new h r.3.1.0 r.3.1.1 ]
    as-many old (call.Alias from to) given new s = elim s [
      | inl r ↦ kept old new r.1
      | inr r ↦ wrote old new to (number_at old from) (ap (λ (t : State K V). t.handles) r.3.1)
    ]
    as-many old (call.DeepClone from to) given new s = elim s [ inl r ↦ kept old new r.1 | inr r ↦ with-many old new to r.3.0 r.3.2 ]
    as-many old (call.SplitOff h c k to) given new s = elim s [ inl r ↦ kept old new r.1 | inr r ↦ parted-many old new h to r.3.0 r.3.1 r.3.3 ]
    as-many old (call.Load h entries) given new s = elim s [ inl r ↦ kept old new r.1 | inr r ↦ with-many old new h r.3.0 r.3.2 ]
    as-many old call.ForestClear given new s = ap (λ (t : State K V). length t.handles) s.1

    run-exchanged : (i j : ℕ) (old : State K V) (calls : List (Call K V)) (answers : List (Answer K V)) (new : State K V) → i < length old.handles → j < length old.handles
        → Run most reads orders old calls answers new → Run most reads orders (turned i j old) (map (exchanged i j) calls) answers (turned i j new)
    run-exchanged i j old [] [] new within within' r = ap (turned i j) r
    run-exchanged i j old (call ∷ calls) (given ∷ answers) new within within' r =
        let many = as-many old call given r.0 r.1 in (
          turned i j r.0,
          step-exchanged i j old r.0 within within' most reads orders call given r.1,
          run-exchanged i j r.0 calls answers new (subst (λ n. i < n) (sym many) within) (subst (λ n. j < n) (sym many) within') r.2,
          r.3,
        )
    run-exchanged i j old [] (given ∷ answers) new within within' r = absurd r
    run-exchanged i j old (call ∷ calls) [] new within within' r = absurd r

    -- a run in which two aliases are exchanged
    pub run-aliases : (old : State K V) (calls : List (Call K V)) (answers : List (Answer K V)) (new : State K V) → Run most reads orders old calls answers new
        → (i j : ℕ) → AreAliases old.handles i j → Run most reads orders old (map (exchanged i j) calls) answers (turned i j new)
    run-aliases old calls answers new r i j a =
        subst (λ (hs : List (Option ℕ)). Run most reads orders (record old { handles = hs }) (map (exchanged i j) calls) answers (turned i j new)) (swap-aliases old.handles i j a.0 a.1 a.2)
        (run-exchanged i j old calls answers new a.0 a.1 r)
