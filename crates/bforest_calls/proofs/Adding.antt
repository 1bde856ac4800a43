-- Each step of a script, and each call of a list, leaves a forest that adds up where it began with one.
use Rattle.bforest_calls.proofs.Accounts.{between-add, clears-add, clones-add, compacts-add, filters-add, gets-or-inserts-add, inserts-add, keeps-add, loads-add, none-adds, pops-add, removes-add, removes-at-add, shifts-add, splits-add, still, unites-add, updates-add, updates-or-inserts-add, writes-add}
use Rattle.bforest_calls.specs.Machine.{Lacks, Orders, State, Step, held_at, number_at, order_at}
use Rattle.bforest_calls.specs.State.{Acts, Held, KeepsIf, Script, StillAddsUp}
use Rattle.bforest_calls.specs.declared.call.Act.TheVariants as act
use Rattle.bforest_calls.specs.declared.call.Act.{Act}
use Rattle.bforest_calls.specs.declared.call.Answer.TheVariants as answer
use Rattle.bforest_calls.specs.declared.call.Answer.{Answer}
use Rattle.bforest_calls.specs.declared.call.Call.TheVariants as call
use Rattle.bforest_calls.specs.declared.call.Call.{Call}
use Rattle.bforest_calls.specs.declared.call.Seen.{Seen}
use Rattle.std.proofs.Common.{Bool, List, None, [], ap, false, inl, inr, true, ◌%◌, ◌∷◌, ◌≡◌, ℕ}
use Rattle.std.specs.declared.cmp.Ordering.{Ordering}

module _ {K V : Type 0} where
  -- a call that is not offered changes nothing
  pub lacks-same : (there : Type 0) (old : State K V) (given : Answer K V) (new : State K V) → Lacks there old given new → new ≡ old
  lacks-same there old answer.NoIndex new h = h.1
  lacks-same there old answer.NotOffered new h = h.1
  lacks-same there old given new h = absurd h

module _ {K V : Type 0} (most : ℕ) (odd : most % 2 ≡ 1) where
  pub act-adds : (order : K → K → Ordering) (old : Held K V) (p : ℕ) (step : Act K V) (sight : Seen K V) (new : Held K V) (q : ℕ) → Acts most order old p step sight new q → StillAddsUp most old.forest new.forest
  act-adds order old p act.Empty sight new q made a = still most old.forest new.forest (ap (λ s. s.forest) made.1) a
  act-adds order old p act.Next sight new q made a = still most old.forest new.forest (ap (λ s. s.forest) made.1) a
  act-adds order old p act.Prev sight new q made a = still most old.forest new.forest (ap (λ s. s.forest) made.1) a
  act-adds order old p act.Key sight new q made a = still most old.forest new.forest (ap (λ s. s.forest) made.1) a
  act-adds order old p act.Value sight new q made a = still most old.forest new.forest (ap (λ s. s.forest) made.1) a
  act-adds order old p (act.Goto k) sight new q made a = still most old.forest new.forest (ap (λ s. s.forest) made.1) a
  act-adds order old p act.First sight new q made a = still most old.forest new.forest (ap (λ s. s.forest) made.1) a
  act-adds order old p (act.Put k v) sight new q made a = inserts-add most odd old.forest new.forest old.number new.number a order k v made.0 made.2
  act-adds order old p (act.Write v) sight new q made a = writes-add most odd old.forest new.forest old.number new.number a p v made.1
  act-adds order old p act.Remove sight new q made a = removes-at-add most odd old.forest new.forest old.number new.number a p made.1

  -- all steps of a script
  script-adds : (order : K → K → Ordering) (old : Held K V) (p : ℕ) (steps : List (Act K V)) (sights : List (Seen K V)) (new : Held K V) (q : ℕ) → Script most order old p steps sights new q → StillAddsUp most old.forest new.forest
  script-adds order old p [] [] new q h a = still most old.forest new.forest (ap (λ s. s.forest) h.0) a
  script-adds order old p (s ∷ steps) (t ∷ sights) new q h a = script-adds order h.0 h.1 steps sights new q h.3 (h.4 a)
  script-adds order old p [] (t ∷ sights) new q h a = absurd h
  script-adds order old p (s ∷ steps) [] new q h a = absurd h

  same-forest : (old new : State K V) → new ≡ old → StillAddsUp most old.forest new.forest
  same-forest old new is a = still most old.forest new.forest (ap (λ s. s.forest) is) a

  pub step-adds : (reads : Bool) (orders : Orders K) (old : State K V) (made : Call K V) (given : Answer K V) (new : State K V) → Step most reads orders old made given new → StillAddsUp most old.forest new.forest
  step-adds reads orders old (call.Get h c k) given new step a = elim step [ inl w ↦ same-forest old new w.1 a | inr w ↦ same-forest old new w.3.1 a ]
  step-adds reads orders old (call.GetOrLess h c k) given new step a = elim step [ inl w ↦ same-forest old new w.1 a | inr w ↦ same-forest old new w.3.1 a ]
  step-adds reads orders old (call.GetOrGreater h c k) given new step a = elim step [ inl w ↦ same-forest old new w.1 a | inr w ↦ same-forest old new w.3.1 a ]
  step-adds reads orders old (call.First h) given new step a = elim step [ inl w ↦ same-forest old new w.1 a | inr w ↦ same-forest old new w.3.1 a ]
  step-adds reads orders old (call.Last h) given new step a = elim step [ inl w ↦ same-forest old new w.1 a | inr w ↦ same-forest old new w.3.1 a ]
  step-adds reads orders old (call.Insert h c k v) given new step a = elim step [
    | inl w ↦ same-forest old new w.1 a
    | inr w ↦ inserts-add most odd old.forest new.forest (number_at old h) w.3.2.0 a (order_at orders c) k v w.3.0 w.3.2.2
  ]
  step-adds true orders old (call.GetOrInsert h c k v) given new step a = elim step [
    | inl w ↦ same-forest old new w.1 a
    | inr w ↦ gets-or-inserts-add most odd old.forest new.forest (number_at old h) w.3.2.0 a (order_at orders c) k v w.3.0 w.3.2.2
  ]
  step-adds false orders old (call.GetOrInsert h c k v) given new step a = same-forest old new (lacks-same _ old given new step) a
  step-adds true orders old (call.Update h c k v) given new step a = elim step [
    | inl w ↦ same-forest old new w.1 a
    | inr w ↦ updates-add most odd old.forest new.forest (number_at old h) w.3.2.0 a (order_at orders c) k w.3.0 w.3.2.2
  ]
  step-adds false orders old (call.Update h c k v) given new step a = same-forest old new (lacks-same _ old given new step) a
  step-adds true orders old (call.UpdateOrInsert h c k v put) given new step a = elim step [
    | inl w ↦ same-forest old new w.1 a
    | inr w ↦ updates-or-inserts-add most odd old.forest new.forest (number_at old h) w.3.2.0 a (order_at orders c) k v w.3.0 w.3.2.2
  ]
  step-adds false orders old (call.UpdateOrInsert h c k v put) given new step a = same-forest old new (lacks-same _ old given new step) a
  step-adds reads orders old (call.Shift h c from keys) given new step a = elim step [
    | inl w ↦ same-forest old new w.1 a
    | inr w ↦ shifts-add most odd old.forest new.forest (number_at old h) a _ w.3.1.2.0
  ]
  step-adds reads orders old (call.Remove h c k) given new step a = elim step [
    | inl w ↦ same-forest old new w.1 a
    | inr w ↦ removes-add most odd old.forest new.forest (number_at old h) w.3.2.0 a (order_at orders c) k w.3.0 w.3.2.2
  ]
  step-adds reads orders old (call.PopFirst h) given new step a = elim step [
    | inl w ↦ same-forest old new w.1 a
    | inr w ↦ pops-add most odd old.forest new.forest (number_at old h) w.3.2.0 a _ w.3.0 w.3.2.2
  ]
  step-adds reads orders old (call.PopLast h) given new step a = elim step [
    | inl w ↦ same-forest old new w.1 a
    | inr w ↦ pops-add most odd old.forest new.forest (number_at old h) w.3.2.0 a _ w.3.0 w.3.2.2
  ]
  step-adds reads orders old (call.Len h) given new step a = elim step [ inl w ↦ same-forest old new w.1 a | inr w ↦ same-forest old new w.3.1 a ]
  step-adds reads orders old (call.Compact h) given new step a = elim step [
    | inl w ↦ same-forest old new w.1 a
    | inr w ↦ compacts-add most odd old.forest new.forest (number_at old h) w.3.2.0 a w.3.0 w.3.2.2
  ]
  step-adds reads orders old (call.RemoveRange h c lo hi) given new step a = elim step [
    | inl w ↦ same-forest old new w.1 a
    | inr w ↦ between-add most odd old.forest new.forest (number_at old h) w.3.2.0 a w.3.2.2
  ]
  step-adds reads orders old (call.Unite h other c) given new step a = elim step [
    | inl w ↦ same-forest old new w.1 a
    | inr w ↦ unites-add most odd old.forest new.forest (number_at old h) w.3.2.0 a w.3.0 w.3.2.2
  ]
  step-adds reads orders old (call.Intersect h other c) given new step a = elim step [
    | inl w ↦ same-forest old new w.1 a
    | inr w ↦ keeps-add most odd old.forest new.forest (number_at old h) w.3.2.0 a w.3.2.2
  ]
  step-adds reads orders old (call.Subtract h other c) given new step a = elim step [
    | inl w ↦ same-forest old new w.1 a
    | inr w ↦ keeps-add most odd old.forest new.forest (number_at old h) w.3.2.0 a w.3.2.2
  ]
  step-adds reads orders old (call.IsSubset h other c) given new step a = elim step [ inl w ↦ same-forest old new w.1 a | inr w ↦ same-forest old new w.3.1 a ]
  step-adds reads orders old (call.IsDisjoint h other c) given new step a = elim step [ inl w ↦ same-forest old new w.1 a | inr w ↦ same-forest old new w.3.1 a ]
  step-adds reads orders old (call.Clear h) given new step a = elim step [
    | inl w ↦ same-forest old new w.1 a
    | inr w ↦ clears-add most odd old.forest new.forest (number_at old h) w.3.1.0 a w.3.1.2
  ]
  step-adds reads orders old (call.Iter h) given new step a = elim step [ inl w ↦ same-forest old new w.1 a | inr w ↦ same-forest old new w.3.3 a ]
  step-adds reads orders old (call.IterBack h) given new step a = elim step [ inl w ↦ same-forest old new w.1 a | inr w ↦ same-forest old new w.3.3 a ]
  step-adds true orders old (call.Read h c steps) given new step a = elim step [ inl w ↦ same-forest old new w.1 a | inr w ↦ same-forest old new w.3.1 a ]
  step-adds false orders old (call.Read h c steps) given new step a = same-forest old new (lacks-same _ old given new step) a
  step-adds reads orders old (call.Edit h c steps) given new step a = elim step [
    | inl w ↦ same-forest old new w.1 a
    | inr w ↦ script-adds (order_at orders c) (held_at old h) _ steps.items w.3.0.items (record { forest = new.forest; number = w.3.2.0 }) w.3.2.2.0 w.3.2.2.1 a
  ]
  step-adds reads orders old (call.Range h c lo hi ends) given new step a = elim step [ inl w ↦ same-forest old new w.1 a | inr w ↦ same-forest old new w.3.1 a ]
  step-adds reads orders old (call.Retain h c keys put) given new step a = elim step [
    | inl w ↦ same-forest old new w.1 a
    | inr w ↦ filters-add most odd old.forest new.forest (number_at old h) w.3.1.0 a (KeepsIf (order_at orders c) keys.items put) tt w.3.1.2
  ]
  step-adds reads orders old (call.Alias from to) given new step a = elim step [ inl w ↦ same-forest old new w.1 a | inr w ↦ still most old.forest new.forest (ap (λ s. s.forest) w.3.1) a ]
  step-adds reads orders old (call.DeepClone from to) given new step a = elim step [
    | inl w ↦ same-forest old new w.1 a
    | inr w ↦ clones-add most odd old.forest new.forest (number_at old from) a w.3.0 w.3.3
  ]
  step-adds reads orders old (call.SplitOff h c k to) given new step a = elim step [
    | inl w ↦ same-forest old new w.1 a
    | inr w ↦ splits-add most odd old.forest new.forest (number_at old h) w.3.0 a w.3.1 w.3.4.parts
  ]
  step-adds reads orders old (call.Load h entries) given new step a = elim step [
    | inl w ↦ same-forest old new w.1 a
    | inr w ↦ loads-add most odd old.forest new.forest None a entries.items w.3.0 w.3.3
  ]
  step-adds reads orders old call.ForestClear given new step a = still most _ new.forest (ap (λ s. s.forest) step.1) (none-adds most old.forest)
