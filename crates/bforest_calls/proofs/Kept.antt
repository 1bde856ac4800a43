-- A predicate without a state.
use Rattle.bforest.specs.Calls.{Filters}
use Rattle.bforest.specs.Forest.{Forest}
use Rattle.bforest.specs.Retain.{AsksEach}
use Rattle.std.proofs.Common.{Bool, List, Option, [], subst, ◌∷◌, ◌≡◌, ℕ}

module _ {F K X : Type 0} (step : F → K → X → Bool → X → F → Type 0) where
  asks-plain : (plain : Unit {0} → K → X → Bool → X → Unit {0} → Type 0) (f : F) → ((k : K) (v : X) (b : Bool) (w : X) (f' : F) → step f k v b w f' → plain tt k v b w tt × (f' ≡ f))
      → (es : List (K × X)) (answers : List (Bool × X)) → AsksEach step f es answers → AsksEach plain tt es answers
  asks-plain plain f h [] answers r = r
  asks-plain plain f h (e ∷ es) [] r = absurd r
  asks-plain plain f h (e ∷ es) (answer ∷ answers) r =
      let a = h e.0 e.1 answer.0 answer.1 r.0 r.1 in
      (tt, a.0, asks-plain plain f h es answers (subst (λ f'. AsksEach step f' es answers) a.1 r.2))

  -- a predicate that calls leave unchanged filters as a step without a state does
  pub filters-plain : (plain : Unit {0} → K → X → Bool → X → Unit {0} → Type 0) (most : ℕ) (q : F) → ((k : K) (v : X) (b : Bool) (w : X) (f' : F) → step q k v b w f' → plain tt k v b w tt × (f' ≡ q))
      → (f : Forest K X) (n : Option ℕ) (f' : Forest K X) (n' : Option ℕ) → Filters most step f n q f' n' → Filters most plain f n tt f' n'
  filters-plain plain most q h f n f' n' r = record {
    kept = record { answers = r.kept.answers; asked = asks-plain plain q h _ _ r.kept.asked; kept_is = r.kept.kept_is; sizes_are = r.kept.sizes_are };
    changed = r.changed;
    same_levels = r.same_levels;
    all_stay = r.all_stay;
    account = r.account;
    increasing = r.increasing;
  }
