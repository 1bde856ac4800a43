-- The next step of a script, and what all its steps say of a cursor or of a range.
use Rattle.bforest.specs.Cursor.{Cursor}
use Rattle.bforest_calls.proofs.Adding.{act-adds}
use Rattle.bforest_calls.specs.Looks.{all_taken, sight_of, sights_of, taken}
use Rattle.bforest_calls.specs.Machine.{Shows}
use Rattle.bforest_calls.specs.State.{Edits, Held, Script, entries}
use Rattle.bforest_calls.specs.Steps.{ActsBy, Chain, Chained, LooksBy, TakesFrom, View}
use Rattle.bforest_calls.specs.declared.call.Act.{Act}
use Rattle.bforest_calls.specs.declared.call.Answer.TheVariants as answer
use Rattle.bforest_calls.specs.declared.call.Answer.{Answer}
use Rattle.bforest_calls.specs.declared.call.Look.{Look}
use Rattle.bforest_calls.specs.declared.call.Seen.{Seen}
use Rattle.bforest_calls.specs.declared.call.Side.{Side}
use Rattle.std.proofs.Common.{Bool, Err, List, Ok, Result, Vec, [], ap, arith, get_or, if◌then◌else◌, length, refl, subst, sym, take, true, ◌%◌, ◌+◌, ◌++◌, ◌<◌, ◌∙◌, ◌≡◌, ◌≤◌, ◌∷◌, ℕ}
use Rattle.std.proofs.lemmas.List.{take_all, take_more}
use Rattle.std.proofs.lemmas.Result.{IfOk-weaker, on_err_weaker}
use Rattle.std.specs.Global.{Global}
use Rattle.std.specs.Result.{IfOk, OnErr}
use Rattle.std.specs.declared.cmp.Ordering.{Ordering}

module _ {A S Y : Type 0} (goes : S → A → Y → S → Type 0) where
  chain-more : (old : S) (steps : List A) (sights : List Y) (mid : S) (step : A) (sight : Y) (new : S)
      → Chain goes old steps sights mid → goes mid step sight new → Chain goes old (steps ++ step ∷ []) (sights ++ sight ∷ []) new
  chain-more old [] [] mid step sight new h next = (new, subst (λ s. goes s step sight new) h next, refl)
  chain-more old (s ∷ steps) (t ∷ sights) mid step sight new h next = (h.0, h.1, chain-more h.0 steps sights mid step sight new h.2 next)
  chain-more old [] (t ∷ sights) mid step sight new h next = absurd h
  chain-more old (s ∷ steps) [] mid step sight new h next = absurd h

  -- one step more, as the loop over the steps knows it
  pub chain-next : (old : S) (steps : List A) (i : ℕ) (sights : List Y) (mid : S) (step : A) (sight : Y) (new : S) (told : List Y)
      → Chain goes old (take i steps) sights mid → goes mid step sight new → i < length steps → step ≡ get_or steps i step → told ≡ sights ++ sight ∷ []
      → Chain goes old (take (i + 1) steps) told new
  chain-next old steps i sights mid step sight new told h next within is tells =
      subst (λ ts. Chain goes old (take (i + 1) steps) ts new) (sym tells)
      (subst (λ ss. Chain goes old ss (sights ++ sight ∷ []) new) (ap (λ s. take i steps ++ s ∷ []) is ∙ sym (take_more steps i step within))
      (chain-more old (take i steps) sights mid step sight new h next))

  pub chain-whole : (old : S) (steps : List A) (i : ℕ) (sights : List Y) (new : S) → Chain goes old (take i steps) sights new → length steps ≤ i
      → Chain goes old steps sights new
  chain-whole old steps i sights new h end = subst (λ ss. Chain goes old ss sights new) (take_all i steps end) h

-- the steps of a reading cursor
pub looks-of : {K V C : Type 0} (order : C → K → K → Ordering) (old : Cursor K V C) (steps : List (Look K)) (sights : List (Seen K V)) (new : Cursor K V C)
    → Chain (LooksBy order) old steps sights new → sights ≡ sights_of (order old.comparator) old.entries old.spot steps
looks-of order old [] [] new h = refl
looks-of order old (s ∷ steps) (t ∷ sights) new h =
    ap (λ x. x ∷ sights) h.1.0
    ∙ ap (λ l. sight_of (order old.comparator) old.entries old.spot s ∷ l) (looks-of order h.0 steps sights new h.2
    ∙ ap (λ z. sights_of (order z.comparator) z.entries z.spot steps) h.1.1)
looks-of order old [] (t ∷ sights) new h = absurd h
looks-of order old (s ∷ steps) [] new h = absurd h

-- the steps from the ends of a range
pub taken-of : {S K V : Type 0} (es : S → List (K × V)) (old : S) (ends : List Side) (sights : List (Seen K V)) (new : S)
    → Chain (TakesFrom es) old ends sights new → sights ≡ all_taken (es old) ends
taken-of es old [] [] new h = refl
taken-of es old (s ∷ ends) (t ∷ sights) new h =
    ap (λ x. x ∷ sights) h.1.0 ∙ ap (λ l. taken (es old) s ∷ l) (taken-of es h.0 ends sights new h.2 ∙ ap (λ z. all_taken z ends) h.1.1)
taken-of es old [] (t ∷ sights) new h = absurd h
taken-of es old (s ∷ ends) [] new h = absurd h

-- the steps of a writing cursor
pub record Scripted {S K V : Type 0} (most : ℕ) (view : View S K V) (old : S) (steps : List (Act K V)) (sights : List (Seen K V)) (new : S) : Type 0 where
  pub script : Script most (view.order old) (view.held old) (view.spot old) steps sights (view.held new) (view.spot new)
  pub handle_loan : view.handle_loan new ≡ view.handle_loan old
  pub forest_loan : view.forest_loan new ≡ view.forest_loan old

script-of : {S K V : Type 0} (most : ℕ) → most % 2 ≡ 1 → (view : View S K V) (old : S) (steps : List (Act K V)) (sights : List (Seen K V)) (new : S)
    → Chain (ActsBy most view) old steps sights new → Scripted most view old steps sights new
script-of most odd view old [] [] new h = record {
  script = (ap view.held h, ap view.spot h);
  handle_loan = ap view.handle_loan h;
  forest_loan = ap
      view.forest_loan h;
}
script-of most odd view old (s ∷ steps) (t ∷ sights) new h =
    let mid = h.0 in
    let a = h.1 in
    let rest = script-of most odd view mid steps sights new h.2 in
    record {
      script = (
        view.held mid,
        view.spot mid,
        a.acts,
        subst (λ o. Script most o (view.held mid) (view.spot mid) steps sights (view.held new) (view.spot new)) a.order rest.script,
        act-adds most odd (view.order old) (view.held old) (view.spot old) s t (view.held mid) (view.spot mid) a.acts,
      );
      handle_loan = rest.handle_loan ∙ a.handle_loan;
      forest_loan = rest.forest_loan ∙ a.forest_loan;
    }
script-of most odd view old [] (t ∷ sights) new h = absurd h
script-of most odd view old (s ∷ steps) [] new h = absurd h

-- a script from the end of a list is an edit, where it begins with what the handle held and ends with what it holds
edits-of : {K V : Type 0} (most : ℕ) (order own : K → K → Ordering) (old first last new : Held K V) (p q : ℕ) (steps : List (Act K V))
    (sights : List (Seen K V))
    → Script most own first p steps sights last q → own ≡ order → first ≡ old → p ≡ length (entries old) → last ≡ new → Edits most order steps sights old new
edits-of most order own old first last new p q steps sights h same begins place ends = (
  q,
  subst (λ s. Script most order old (length (entries old)) steps sights s q) ends
      (subst (λ r. Script most order old r steps sights last q) place
      (subst (λ s. Script most order s p steps sights last q) begins
      (subst (λ o. Script most o first p steps sights last q) same h))),
)

-- an answer that lists those of steps, where what the steps say tells the list
pub shows-all : {A S K V E P : Type 0} (goes : S → A → Seen K V → S → Type 0) (old new : S) (steps : List A) (list : List (Seen K V)) (r : Result (Answer K V) E)
    → IfOk r (Chained goes old steps new) → ((sights : List (Seen K V)) → Chain goes old steps sights new → sights ≡ list) → P
    → IfOk r (λ given. Shows list given × P)
shows-all goes old new steps list r chain tells p = IfOk-weaker r _ _ (λ given w. ((w.0, w.1, tells w.0.items w.2), p)) chain

-- the answer of steps from the ends of a range, which has these entries at first
pub shows-taken : {S K V E P : Type 0} (es : S → List (K × V)) {old : S} (new : S) {ends asked : List Side} {list : List (K × V)} (r : Result (Answer K V) E)
    → IfOk r (Chained (TakesFrom es) old ends new) → es old ≡ list → ends ≡ asked → P → IfOk r (λ given. Shows (all_taken list asked) given × P)
shows-taken es {old} new {ends} r chain has is p =
    shows-all (TakesFrom es) old new ends _ r chain (λ sights h. taken-of es old ends sights new h ∙ (λ j. all_taken (has j) (is j))) p

-- all steps of a writing cursor, or none where memory for their answers was refused
module _ {S K V E : Type 0} (most : ℕ) (odd : most % 2 ≡ 1) (view : View S K V) {first last : S} (steps : List (Act K V)) (r : Result (Answer K V) E)
    (chain : IfOk r (Chained (ActsBy most view) first steps last)) (err : OnErr r (last ≡ first)) where
  pub loans-stay : (view.handle_loan last ≡ view.handle_loan first) × (view.forest_loan last ≡ view.forest_loan first)
  loans-stay = by r chain err
    where
      by : (r : Result (Answer K V) E) → IfOk r (Chained (ActsBy most view) first steps last) → OnErr r (last ≡ first)
          → (view.handle_loan last ≡ view.handle_loan first) × (view.forest_loan last ≡ view.forest_loan first)
      by (Ok given) h e = let s = script-of most odd view first steps h.0.items last h.2 in (s.handle_loan, s.forest_loan)
      by (Err why) h e = (ap view.handle_loan e, ap view.forest_loan e)

  -- the edit of a handle's list, where the cursor was made of what the handle held, and leaves what it holds
  pub edited : (old new : Held K V) {order : K → K → Ordering} {asked : List (Act K V)} → (view.held first).forest ≡ old.forest
      → (view.held first).number ≡ old.number → new.forest ≡ (view.held last).forest → new.number ≡ (view.held last).number
      → view.order first ≡ order → view.spot first ≡ length (entries old) → steps ≡ asked
      → IfOk r (λ given. (sights : Vec (Seen K V) Global) × (given ≡ answer.Script sights) × Edits most order asked sights.items old new)
      × OnErr r (new.forest ≡ old.forest) × OnErr r (new.number ≡ old.number)
  edited old new {order} forest number forest' number' same place is =
      let begins : view.held first ≡ old = λ j. record { forest = forest j; number = number j } in
      let ends : view.held last ≡ new = λ j. record { forest = sym forest' j; number = sym number' j } in
      let none : OnErr r (new ≡ old) = on_err_weaker r (λ e. sym ends ∙ ap view.held e ∙ begins) err in (
        IfOk-weaker r _ _ (λ given w.
            let s = script-of most odd view first steps w.0.items last w.2 in
            let made = edits-of most order (view.order first) old (view.held first) (view.held last) new (view.spot first) (view.spot last)
            steps w.0.items s.script same begins place ends in
            (w.0, w.1, subst (λ all. Edits most order all w.0.items old new) is made)) chain,
        on_err_weaker r (ap (λ s. s.forest)) none,
        on_err_weaker r (ap (λ s. s.number)) none,
      )

-- a push within the capacity appends the element
pub pushed : {X : Type 0} (ok : Bool) (with without new : X) → ok ≡ true → new ≡ (if ok then with else without) → new ≡ with
pushed ok with without new is e = e ∙ (λ j. if is j then with else without)

pub room-stays : (most before after : ℕ) → most ≤ before → before ≤ after → most ≤ after
room-stays most before after low grows = omega (arith, low, grows)
