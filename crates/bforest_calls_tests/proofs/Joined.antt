-- Two runs in turn are a run of the joined list of calls.
use Rattle.bforest_calls.specs.Machine.{Orders, Run, State}
use Rattle.bforest_calls.specs.declared.call.Answer.{Answer}
use Rattle.bforest_calls.specs.declared.call.Call.{Call}
use Rattle.std.proofs.Common.{Bool, List, [], subst, ◌++◌, ◌∷◌, ℕ}

module _ {K V : Type 0} (most : ℕ) (reads : Bool) where
  pub run-joined : (orders : Orders K) (old : State K V) (calls : List (Call K V)) (answers : List (Answer K V)) (mid : State K V) (others : List (Call K V)) (more : List (Answer K V)) (new : State K V)
      → Run most reads orders old calls answers mid → Run most reads orders mid others more new → Run most reads orders old (calls ++ others) (answers ++ more) new
  run-joined orders old [] [] mid others more new h next = subst (λ (m : State K V). Run most reads orders m others more new) h next
  run-joined orders old (call ∷ calls) (given ∷ answers) mid others more new h next = (h.0, h.1, run-joined orders h.0 calls answers mid others more new h.2 next, h.3)
  run-joined orders old [] (given ∷ answers) mid others more new h next = absurd h
  run-joined orders old (call ∷ calls) [] mid others more new h next = absurd h
