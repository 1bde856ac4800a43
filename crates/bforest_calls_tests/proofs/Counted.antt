-- A run that starts with a forest that adds up leaves one after each call.
use Rattle.bforest_calls.specs.Machine.{Orders, Run, State}
use Rattle.bforest_calls.specs.State.{AddsUp}
use Rattle.bforest_calls.specs.declared.call.Answer.{Answer}
use Rattle.bforest_calls.specs.declared.call.Call.{Call}
use Rattle.bforest_calls_tests.specs.Counted.{AddsUpThroughout}
use Rattle.std.proofs.Common.{Bool, List, [], ◌∷◌, ℕ}

pub adds-throughout : {K V : Type 0} (most : ℕ) (reads : Bool) (orders : Orders K) (old : State K V) (calls : List (Call K V)) (answers : List (Answer K V)) (new : State K V)
    → AddsUp most old.forest → Run most reads orders old calls answers new → AddsUpThroughout most reads orders old calls answers new
adds-throughout most reads orders old [] [] new adds run = run
adds-throughout most reads orders old (call ∷ calls) (given ∷ answers) new adds run =
    let after = run.3 adds in (run.0, run.1, after, adds-throughout most reads orders run.0 calls answers new after run.2)
adds-throughout most reads orders old [] (given ∷ answers) new adds run = absurd run
adds-throughout most reads orders old (call ∷ calls) [] new adds run = absurd run
