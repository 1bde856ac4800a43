-- Each call that changes a tree is one change of it, and every other number keeps its list.
use Rattle.bforest.proofs.Becoming.{becomes-both}
use Rattle.bforest.specs.Calls.{Compacts, Inserts, Unites}
use Rattle.bforest.specs.Forest.{Becomes, Forest, IsLive, list_of}
use Rattle.bforest_calls.proofs.Indexed.{becomes_same}
use Rattle.bforest_calls.proofs.Updating.{got-or-inserted, updated-or-inserted}
use Rattle.bforest_calls.specs.State.{Acts, GotOrInserted, Held, Script, Shifted, Updated, UpdatedOrInserted, entries}
use Rattle.bforest_calls.specs.declared.call.Act.TheVariants as act
use Rattle.bforest_calls.specs.declared.call.Act.{Act}
use Rattle.bforest_calls.specs.declared.call.Seen.{Seen}
use Rattle.bforest.specs.Refusal.{OutOfMemory}
use Rattle.bforest_trees.specs.Calls.{as_inserted}
use Rattle.std.proofs.Common.{Bool, Err, List, None, Ok, Option, Result, Some, [], ap, refl, subst, sym, ◌∷◌, ◌≡◌, ℕ}
use Rattle.std.specs.declared.cmp.Ordering.{Ordering}

module _ {K V : Type 0} where
  -- a change makes the handle's list what it is afterwards
  pub retold : (f f' : Forest K V) (h h' : Option ℕ) (es : List (K × V)) → Becomes f h f' h' es → Becomes f h f' h' (list_of f' h')
  retold f f' h h' es b = subst (λ (xs : List (K × V)). Becomes f h f' h' xs) (sym b.list) b

  -- a forest that does not change becomes its own list
  stayed : (f f' : Forest K V) (h h' : Option ℕ) → IsLive f h → f' ≡ f → h' ≡ h → Becomes f h f' h' (list_of f' h')
  stayed f f' h h' live same still =
      subst (λ (g : Forest K V). Becomes f h g h' (list_of g h')) (sym same)
      (subst (λ (q : Option ℕ). Becomes f h f q (list_of f q)) (sym still) (becomes_same f h (list_of f h) live refl))

  pub compacted : (most : ℕ) (f : Forest K V) (h : Option ℕ) (result : Result (Unit {0}) OutOfMemory) (f' : Forest K V) (h' : Option ℕ)
      → IsLive f h → Compacts most f h result f' h' → Becomes f h f' h' (list_of f' h')
  compacted most f h (Ok done) f' h' live c = retold f f' h h' _ c.same_list
  compacted most f h (Err e) f' h' live c = stayed f f' h h' live c.refused_forest c.refused_handle

  module _ (order : K → K → Ordering) (old new : Held K V) where
    pub updated : (k : K) (v : V) (result : Option V) → IsLive old.forest old.number → Updated order k v result old new
        → Becomes old.forest old.number new.forest new.number (entries new)
    updated k v None live u = stayed old.forest new.forest old.number new.number live (u.absent_forest refl) u.handle
    updated k v (Some w) live u = retold old.forest new.forest old.number new.number _ u.put

    pub shifted : (from : K) (keys : List (K × K)) → Shifted order from keys old new → Becomes old.forest old.number new.forest new.number (entries new)
    shifted from keys s =
        subst (λ (q : Option ℕ). Becomes old.forest old.number new.forest q (list_of new.forest q)) (sym s.1) (retold old.forest new.forest old.number old.number _ s.0.shifted)

  module _ (most : ℕ) (order : K → K → Ordering) where
    pub inserted : (f : Forest K V) (h : Option ℕ) (k : K) (x : V) (result : Result (Option V) OutOfMemory) (f' : Forest K V) (h' : Option ℕ)
        → IsLive f h → Inserts most order f h k x result f' h' → Becomes f h f' h' (list_of f' h')
    inserted f h k x (Ok a) f' h' live i = retold f f' h h' _ i.put
    inserted f h k x (Err e) f' h' live i = stayed f f' h h' live i.refused_forest i.refused_handle

    pub united-with : (f : Forest K V) (h o : Option ℕ) (result : Result Bool OutOfMemory) (f' : Forest K V) (h' : Option ℕ)
        → IsLive f h → Unites most order f h o result f' h' → Becomes f h f' h' (list_of f' h')
    united-with f h o (Ok changed) f' h' live u = retold f f' h h' _ u.united
    united-with f h o (Err e) f' h' live u = stayed f f' h h' live u.refused_forest u.refused_handle

    module _ (old new : Held K V) (k : K) (v : V) where
      pub got-inserted : (result : Result V OutOfMemory) → IsLive old.forest old.number → GotOrInserted most order k v result old new
          → Becomes old.forest old.number new.forest new.number (entries new)
      got-inserted result live r = got-or-inserted r (λ same stays. stayed old.forest new.forest old.number new.number live same stays)
          (λ put. inserted old.forest old.number k v (as_inserted result) new.forest new.number live put)

      pub updated-inserted : (put : V) (result : Result V OutOfMemory) → IsLive old.forest old.number → UpdatedOrInserted most order k v put result old new
          → Becomes old.forest old.number new.forest new.number (entries new)
      updated-inserted put result live r = updated-or-inserted result r (λ w is u. updated order old new k put (Some w) live u)
          (λ none i. inserted old.forest old.number k v (as_inserted result) new.forest new.number live i)

    looked : (old new : Held K V) → IsLive old.forest old.number → new ≡ old → Becomes old.forest old.number new.forest new.number (entries new)
    looked old new live same = stayed old.forest new.forest old.number new.number live (ap (λ (held : Held K V). held.forest) same) (ap (λ (held : Held K V). held.number) same)

    acted : (old : Held K V) (p : ℕ) (step : Act K V) (sight : Seen K V) (new : Held K V) (q : ℕ)
        → IsLive old.forest old.number → Acts most order old p step sight new q → Becomes old.forest old.number new.forest new.number (entries new)
    acted old p act.Empty sight new q live a = looked old new live a.1
    acted old p act.Next sight new q live a = looked old new live a.1
    acted old p act.Prev sight new q live a = looked old new live a.1
    acted old p act.Key sight new q live a = looked old new live a.1
    acted old p act.Value sight new q live a = looked old new live a.1
    acted old p (act.Goto k) sight new q live a = looked old new live a.1
    acted old p act.First sight new q live a = looked old new live a.1
    acted old p (act.Put k v) sight new q live a = inserted old.forest old.number k v a.0 new.forest new.number live a.2
    acted old p (act.Write v) sight new q live a = retold old.forest new.forest old.number new.number _ a.1.becomes
    acted old p act.Remove sight new q live a = retold old.forest new.forest old.number new.number _ a.1.removed

    -- all steps of a writing cursor are one change of its tree
    pub scripted : (old : Held K V) (p : ℕ) (steps : List (Act K V)) (sights : List (Seen K V)) (new : Held K V) (q : ℕ)
        → IsLive old.forest old.number → Script most order old p steps sights new q → Becomes old.forest old.number new.forest new.number (entries new)
    scripted old p [] [] new q live s = looked old new live s.0
    scripted old p (step ∷ steps) (sight ∷ sights) new q live s =
        let first = acted old p step sight s.0 s.1 live s.2 in
        becomes-both old.forest s.0.forest new.forest old.number s.0.number new.number _ _ first (scripted s.0 s.1 steps sights new q first.live s.3)
    scripted old p [] (sight ∷ sights) new q live s = absurd s
    scripted old p (step ∷ steps) [] new q live s = absurd s
