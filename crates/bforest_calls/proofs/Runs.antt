-- The next call of a run.
use Rattle.bforest_calls.proofs.Adding.{step-adds}
use Rattle.bforest_calls.specs.Machine.{AsksRoom, MayStopAt, Orders, Run, State, Step}
use Rattle.bforest_calls.specs.declared.call.Answer.{Answer}
use Rattle.bforest_calls.specs.declared.call.Call.{Call}
use Rattle.std.proofs.Common.{Bool, Err, List, Ok, Result, [], ap, get_or, length, refl, subst, sym, take, ◌%◌, ◌+◌, ◌++◌, ◌<◌, ◌∙◌, ◌≡◌, ◌≤◌, ◌∷◌, ℕ, arith, suc, zero}
use Rattle.std.proofs.lemmas.List.{take_all, take_more}
use Rattle.std.proofs.lemmas.Option.{slice_get_read}
use Rattle.std.specs.Result.{OnErr}

module _ {K V : Type 0} (most : ℕ) (odd : most % 2 ≡ 1) (reads : Bool) where
  run_more : (orders : Orders K) (old : State K V) (calls : List (Call K V)) (answers : List (Answer K V)) (mid : State K V) (call : Call K V)
      (given : Answer K V) (new : State K V)
      → Run most reads orders old calls answers mid → Step most reads orders mid call given new
      → Run most reads orders old (calls ++ call ∷ []) (answers ++ given ∷ []) new
  run_more orders old [] [] mid call given new h next =
      let first = subst (λ (m : State K V). Step most reads orders m call given new) h next in
      (new, first, refl, step-adds most odd reads orders old call given new first)
  run_more orders old (d ∷ calls) (b ∷ answers) mid call given new h next = (h.0, h.1, run_more orders h.0 calls answers mid call given new h.2 next, h.3)
  run_more orders old [] (b ∷ answers) mid call given new h next = absurd h
  run_more orders old (d ∷ calls) [] mid call given new h next = absurd h

  pub run_next : (orders : Orders K) (old : State K V) (calls : List (Call K V)) (i : ℕ) (answers : List (Answer K V)) (mid : State K V) (call : Call K V)
      (given : Answer K V) (new : State K V) (told : List (Answer K V))
      → Run most reads orders old (take i calls) answers mid → Step most reads orders mid call given new → i < length calls → call ≡ get_or calls i call
      → told ≡ answers ++ given ∷ []
      → Run most reads orders old (take (i + 1) calls) told new
  run_next orders old calls i answers mid call given new told h next within is tells =
      subst (λ (ts : List (Answer K V)). Run most reads orders old (take (i + 1) calls) ts new) (sym tells)
      (subst (λ (ss : List (Call K V)). Run most reads orders old ss (answers ++ given ∷ []) new) (ap (λ s. take i calls ++ s ∷ []) is
      ∙ sym (take_more calls i call within))
      (run_more orders old (take i calls) answers mid call given new h next))

  pub run_same : (orders : Orders K) (old : State K V) (calls : List (Call K V)) (answers : List (Answer K V)) (mid new : State K V)
      → Run most reads orders old calls answers mid → new.forest ≡ mid.forest → new.handles ≡ mid.handles → Run most reads orders old calls answers new
  run_same orders old calls answers mid new h forest handles =
      subst (λ (m : State K V). Run most reads orders old calls answers m) (λ j. record { forest = sym forest j; handles = sym handles j }) h

  pub run_whole : (orders : Orders K) (old : State K V) (calls : List (Call K V)) (i : ℕ) (answers : List (Answer K V)) (new : State K V)
      → Run most reads orders old (take i calls) answers new → length calls ≤ i → Run most reads orders old calls answers new
  run_whole orders old calls i answers new h end = subst (λ (cs : List (Call K V)). Run most reads orders old cs answers new) (take_all i calls end) h

-- what is not 0 is more
pub not-none : (n : ℕ) → (n ≡ 0 → ⊥) → 0 < n
not-none zero none = absurd (none refl)
not-none (suc n) none = omega arith

-- a list may stop at a call of it that requests memory, and then has left the state as it was
pub may-stop : {K V : Type 0} (reads : Bool) (orders : Orders K) (calls : List (Call K V)) (i : ℕ) (call : Call K V) (old new : State K V) → i < length calls
    → call ≡ get_or calls i call → new.forest ≡ old.forest → new.handles ≡ old.handles → AsksRoom reads orders old call
    → MayStopAt reads orders new calls i
may-stop reads orders calls i call old new within is forest handles asks =
    let same : old ≡ new = λ j. record { forest = sym forest j; handles = sym handles j } in
    (within, λ positive. (call, slice_get_read calls (length calls) i call refl within is, subst (λ s. AsksRoom reads orders s call) same asks))

pub on_err_from : {T E P : Type 0} (r : Result T E) → P → OnErr r P
on_err_from (Ok x) p = tt
on_err_from (Err e) p = p
