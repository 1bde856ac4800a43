-- What the answer to a call tells: it was made, and its list increases as it did.
use Rattle.bforest.proofs.Cursors.{IsIncreasing-with_value}
use Rattle.bforest.specs.Calls.{Inserts}
use Rattle.bforest.specs.Forest.{Forest, IsLive, list_of}
use Rattle.bforest.specs.Refusal.{OutOfMemory}
use Rattle.bforest_calls.specs.Compared.{IsKeeping}
use Rattle.bforest_calls.proofs.Changes.{scripted, united-with}
use Rattle.bforest_calls.specs.Machine.{Compares, ComparesBoth, ComparesIf, IsKnown, Lacks, Orders, Passes, Refuses, State, Step, number_at, order_at}
use Rattle.bforest_calls.specs.State.{Acts, Held, Script, entries}
use Rattle.bforest_calls.specs.declared.call.Act.TheVariants as act
use Rattle.bforest_calls.specs.declared.call.Act.{Act}
use Rattle.bforest_calls.specs.declared.call.Answer.TheVariants as answer
use Rattle.bforest_calls.specs.declared.call.Answer.{Answer}
use Rattle.bforest_calls.specs.declared.call.Call.TheVariants as call
use Rattle.bforest_calls.specs.declared.call.Call.{Call}
use Rattle.bforest_calls.specs.declared.call.Seen.{Seen}
use Rattle.bforest_nodes.proofs.Ordered.{IsIncreasing-remove}
use Rattle.bforest_nodes.specs.Entries.{IsIncreasing}
use Rattle.std.proofs.Common.{Bool, Err, List, None, Ok, Option, Result, Some, [], false, inl, inr, length, refl, subst, sym, true, ◌<◌, ◌∷◌, ◌≡◌, ◌≢◌, ℕ}
use Rattle.std.proofs.lemmas.List.{get_or-set_same, length-set}
use Rattle.std.specs.Prelude.{IfSome, slice_set}
use Rattle.std.specs.declared.cmp.Ordering.{Ordering}

module _ {K V : Type 0} where
  -- an answer that tells no refusal is of a call that was made
  abbrev pub IsOfMade : Answer K V → Type 0
  IsOfMade given = (given ≢ answer.NoIndex) × (given ≢ answer.Dead) × (given ≢ answer.Unordered) × (given ≢ answer.NotOffered)

  not-refused : (there live ordered : Type 0) (given : Answer K V) → IsOfMade given → Refuses there live ordered given → ⊥
  not-refused there live ordered answer.NoIndex m r = m.0 refl
  not-refused there live ordered answer.Dead m r = m.1 refl
  not-refused there live ordered answer.Unordered m r = m.2 refl
  not-refused there live ordered given m r = absurd r

  not-lacking : (there : Type 0) (old : State K V) (given : Answer K V) (new : State K V) → IsOfMade given → Lacks there old given new → ⊥
  not-lacking there old answer.NoIndex new m l = m.0 refl
  not-lacking there old answer.NotOffered new m l = m.3 refl
  not-lacking there old given new m l = absurd l

  -- an insertion leaves a live handle
  inserts-live : {most : ℕ} {cmp : K → K → Ordering} {f f' : Forest K V} {h h' : Option ℕ} {k : K} {v : V} (result : Result (Option V) OutOfMemory)
      → Inserts most cmp f h k v result f' h' → IsLive f h → IsLive f' h'
  inserts-live (Ok had) i live = i.put.live
  inserts-live (Err why) i live = rw (i.refused_forest, i.refused_handle) live

  module _ (most : ℕ) (order : K → K → Ordering) where
    -- a step of a writing cursor leaves a list that increases as it did
    act-keeps : (old : Held K V) (p : ℕ) (step : Act K V) (sight : Seen K V) (new : Held K V) (q : ℕ)
        → Acts most order old p step sight new q → IsIncreasing order (entries old) → IsIncreasing order (entries new)
    act-keeps old p act.Empty sight new q a up = subst (λ (s : Held K V). IsIncreasing order (entries s)) (sym a.1) up
    act-keeps old p act.Next sight new q a up = subst (λ (s : Held K V). IsIncreasing order (entries s)) (sym a.1) up
    act-keeps old p act.Prev sight new q a up = subst (λ (s : Held K V). IsIncreasing order (entries s)) (sym a.1) up
    act-keeps old p act.Key sight new q a up = subst (λ (s : Held K V). IsIncreasing order (entries s)) (sym a.1) up
    act-keeps old p act.Value sight new q a up = subst (λ (s : Held K V). IsIncreasing order (entries s)) (sym a.1) up
    act-keeps old p (act.Goto k) sight new q a up = subst (λ (s : Held K V). IsIncreasing order (entries s)) (sym a.1) up
    act-keeps old p act.First sight new q a up = subst (λ (s : Held K V). IsIncreasing order (entries s)) (sym a.1) up
    act-keeps old p (act.Put k v) sight new q a up = a.2.increasing
    act-keeps old p (act.Write v) sight new q a up = subst (IsIncreasing order) (sym a.1.becomes.list) (IsIncreasing-with_value order (entries old) p v up)
    act-keeps old p act.Remove sight new q a up = subst (IsIncreasing order) (sym a.1.removed.list) (IsIncreasing-remove order (entries old) p up)

    script-keeps : (old : Held K V) (p : ℕ) (steps : List (Act K V)) (sights : List (Seen K V)) (new : Held K V) (q : ℕ)
        → Script most order old p steps sights new q → IsIncreasing order (entries old) → IsIncreasing order (entries new)
    script-keeps old p [] [] new q s up = subst (λ (h : Held K V). IsIncreasing order (entries h)) (sym s.0) up
    script-keeps old p (step ∷ steps) (sight ∷ sights) new q s up = script-keeps s.0 s.1 steps sights new q s.3 (act-keeps old p step sight s.0 s.1 s.2 up)
    script-keeps old p [] (sight ∷ sights) new q s up = absurd s
    script-keeps old p (step ∷ steps) [] new q s up = absurd s

  module _ (orders : Orders K) (old : State K V) (given : Answer K V) (new : State K V) (is-made : IsOfMade given) where
    -- what is said of a call's own indices is said of equal ones
    here : (h c a b : ℕ) → a ≡ h → b ≡ c → Passes orders new a b → Passes orders new h c
    here h c a b is-a is-b p = subst (λ n. Passes orders new n c) is-a (subst (λ n. Passes orders new a n) is-b p)

    compared : (h c : ℕ) {M P : Type 0} → Compares orders h c old given new M → (Passes orders old h c → M → P) → P
    compared h c t f = elim t [ inl r ↦ absurd (not-refused _ _ _ given is-made r.0) | inr w ↦ f (w.0.0, w.0.1, w.1, w.2) w.3 ]

    compared-both : (h o c : ℕ) {M P : Type 0} → ComparesBoth orders h o c old given new M → (Passes orders old h c → M → P) → P
    compared-both h o c t f = elim t [ inl r ↦ absurd (not-refused _ _ _ given is-made r.0) | inr w ↦ f (w.0.0, w.0.2, w.1.0, w.2.0) w.3 ]

    compared-if : (reads : Bool) (h c : ℕ) {M P : Type 0} → ComparesIf reads orders h c old given new M → (Passes orders old h c → M → P) → P
    compared-if true h c t f = compared h c t f
    compared-if false h c t f = absurd (not-lacking _ old given new is-made t)

    same : (h c : ℕ) → new ≡ old → Passes orders old h c → Passes orders new h c
    same h c is p = subst (λ s. Passes orders s h c) (sym is) p

    -- the handle's number was written, and its list increases
    written : (h c : ℕ) (number : Option ℕ) → Passes orders old h c → new.handles ≡ slice_set old.handles h number → IsLive new.forest number
        → IsIncreasing (order_at orders c) (list_of new.forest number) → Passes orders new h c
    written h c number p is live up =
        let own : number_at new h ≡ number = rw is (get_or-set_same old.handles h number None p.0) in (
          subst (λ hs. h < length hs) (sym is) (subst (λ n. h < n) (sym (length-set old.handles h number)) p.0),
          p.1,
          subst (λ n. IsLive new.forest n) (sym own) live,
          subst (λ n. IsIncreasing (order_at orders c) (list_of new.forest n)) (sym own) up,
        )

    made-keeps : (most : ℕ) (reads : Bool) (made : Call K V) (h c : ℕ) → IsKeeping h c made → Step most reads orders old made given new → Passes orders new h c
    made-keeps most reads (call.Get a b k) h c is s = here h c a b is.0 is.1 (compared a b s (λ p m. same a b m.1 p))
    made-keeps most reads (call.GetOrLess a b k) h c is s = here h c a b is.0 is.1 (compared a b s (λ p m. same a b m.1 p))
    made-keeps most reads (call.GetOrGreater a b k) h c is s = here h c a b is.0 is.1 (compared a b s (λ p m. same a b m.1 p))
    made-keeps most reads (call.Insert a b k v) h c is s =
        here h c a b is.0 is.1 (compared a b s (λ p m. written a b m.2.0 p m.2.1 (inserts-live m.0 m.2.2 p.2) m.2.2.increasing))
    made-keeps most reads (call.GetOrInsert a b k v) h c is s =
        here h c a b is.0 is.1 (compared-if reads a b s (λ p m. written a b m.2.0 p m.2.1 m.2.2.live m.2.2.increasing))
    made-keeps most reads (call.Update a b k v) h c is s =
        here h c a b is.0 is.1 (compared-if reads a b s (λ p m. written a b m.2.0 p m.2.1 m.2.2.live (m.2.2.increasing (order_at orders b) p.3)))
    made-keeps most reads (call.UpdateOrInsert a b k v put) h c is s =
        here h c a b is.0 is.1 (compared-if reads a b s (λ p m. written a b m.2.0 p m.2.1 m.2.2.live m.2.2.increasing))
    made-keeps most reads (call.Remove a b k) h c is s =
        here h c a b is.0 is.1 (compared a b s (λ p m. written a b m.2.0 p m.2.1 m.2.2.cut.live m.2.2.increasing))
    made-keeps most reads (call.Read a b steps) h c is s = here h c a b is.0 is.1 (compared-if reads a b s (λ p m. same a b m.1 p))
    made-keeps most reads (call.Range a b lo hi ends) h c is s = here h c a b is.0 is.1 (compared a b s (λ p m. same a b m.1 p))
    made-keeps most reads (call.RemoveRange a b lo hi) h c is s =
        here h c a b is.0 is.1 (compared a b s (λ p m. written a b m.2.0 p m.2.1 m.2.2.removed.live m.2.2.increasing))
    made-keeps most reads (call.Edit a b steps) h c is s =
        here h c a b is.0 is.1 (compared a b s (λ p m.
        let script = m.2.2.1 in
        written a b m.2.0 p m.2.1 (scripted most (order_at orders b) _ _ steps.items m.0.items _ m.2.2.0 p.2 script).live
        (script-keeps most (order_at orders b) _ _ steps.items m.0.items _ m.2.2.0 script p.3)))
    made-keeps most reads (call.Unite a o b) h c is s =
        here h c a b is.0 is.1 (compared-both a o b s (λ p m.
        written a b m.2.0 p m.2.1 (united-with most (order_at orders b) old.forest (number_at old a) (number_at old o) m.0 new.forest m.2.0 p.2 m.2.2).live
        m.2.2.increasing))
    made-keeps most reads (call.Intersect a o b) h c is s =
        here h c a b is.0 is.1 (compared-both a o b s (λ p m. written a b m.2.0 p m.2.1 m.2.2.kept.live m.2.2.increasing))
    made-keeps most reads (call.Subtract a o b) h c is s =
        here h c a b is.0 is.1 (compared-both a o b s (λ p m. written a b m.2.0 p m.2.1 m.2.2.kept.live m.2.2.increasing))
    made-keeps most reads (call.IsSubset a o b) h c is s = here h c a b is.0 is.1 (compared-both a o b s (λ p m. same a b m.1 p))
    made-keeps most reads (call.IsDisjoint a o b) h c is s = here h c a b is.0 is.1 (compared-both a o b s (λ p m. same a b m.1 p))
    made-keeps most reads other h c is s = absurd is

    pub made-tells : (most : ℕ) (reads : Bool) (made : Call K V) (kept : Option (ℕ × ℕ)) → IfSome kept (λ it. IsKeeping it.0 it.1 made)
        → Step most reads orders old made given new → IsKnown orders new kept
    made-tells most reads made None keeping s = tt
    made-tells most reads made (Some it) keeping s = made-keeps most reads made it.0 it.1 keeping s
