-- A tree that is made for a handle, or refused, alone or beside what is left of another tree.
use Rattle.bforest.specs.Forest.{Forest}
use Rattle.bforest_calls.specs.Machine.{MakesFor, PartsFor, State}
use Rattle.bforest_calls.specs.State.{Held}
use Rattle.bforest_calls.specs.declared.call.Answer.TheVariants as answer
use Rattle.bforest_calls.specs.declared.call.Answer.{Answer}
use Rattle.bforest_core.specs.declared.pool.OutOfMemory.{OutOfMemory}
use Rattle.std.proofs.Common.{Err, List, Ok, Option, Result, ap, ◌∙◌, ◌≡◌, ℕ}
use Rattle.std.specs.Prelude.{IfErr, IfOk, slice_set}

-- what is said of a result is said of its value, or of its error
module _ {X E : Type 0} (R : Result X E → Type 0) where
  pub when-ok : (result : Result X E) → R result → IfOk result (λ x. R (Ok x))
  when-ok (Ok x) r = r
  when-ok (Err e) r = tt

  pub when-err : (result : Result X E) → R result → IfErr result (λ e. R (Err e))
  when-err (Ok x) r = tt
  when-err (Err e) r = r

-- what is made, by the handle that it returns, and what is answered and written then
pub makes-for : {K V T : Type 0} (number : T → Option ℕ) (made : Result T OutOfMemory) {h : ℕ} (old : State K V) {given : Answer K V} (new : State K V)
    (R : Result (Option ℕ) OutOfMemory → Forest K V → Type 0)
    → IfOk made (λ x. R (Ok (number x)) new.forest) → IfErr made (λ e. R (Err e) new.forest)
    → IfOk made (λ x. (given ≡ answer.Made (Ok tt)) × (new.handles ≡ slice_set old.handles h (number x)))
    → IfErr made (λ e. (given ≡ answer.Made (Err e)) × (new.handles ≡ old.handles)) → MakesFor h old given new R
makes-for number (Ok x) old new R r r' w w' = (Ok (number x), w.0, w.1, r)
makes-for number (Err e) old new R r r' w w' = (Err e, w'.0, w'.1, r')

-- what is parted from the tree of handle h, whose number is written first
pub parts-for : {K V T : Type 0} (number : T → Option ℕ) (parted : Result T OutOfMemory) (h : ℕ) {to : ℕ} (old : State K V) {given : Answer K V} (new : State K V) (own : Option ℕ)
    {mid : List (Option ℕ)} → mid ≡ slice_set old.handles h own → (R : Result (Option ℕ) OutOfMemory → Held K V → Type 0)
    → IfOk parted (λ x. R (Ok (number x)) (record { forest = new.forest; number = own })) → IfErr parted (λ e. R (Err e) (record { forest = new.forest; number = own }))
    → IfOk parted (λ x. (given ≡ answer.Made (Ok tt)) × (new.handles ≡ slice_set mid to (number x)))
    → IfErr parted (λ e. (given ≡ answer.Made (Err e)) × (new.handles ≡ mid)) → PartsFor h to old given new R
parts-for number (Ok x) h {to} old new own is R r r' w w' = (own, Ok (number x), w.0, w.1 ∙ ap (λ hs. slice_set hs to (number x)) is, r)
parts-for number (Err e) h old new own is R r r' w w' = (own, Err e, w'.0, w'.1 ∙ is, r')
