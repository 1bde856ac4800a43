-- A run in which every node is accounted for.
use Rattle.bforest_calls.specs.Machine.{Orders, State, Step}
use Rattle.bforest_calls.specs.State.{AddsUp}
use Rattle.bforest_calls.specs.declared.call.Answer.{Answer}
use Rattle.bforest_calls.specs.declared.call.Call.{Call}
use Rattle.std.specs.Prelude.{Bool, List, [], ◌≡◌, ◌∷◌, ℕ}

-- the steps of a list of calls, each of which leaves a forest that adds up
abbrev pub AddsUpThroughout : {K V : Type 0} → ℕ → Bool → Orders K → State K V → List (Call K V) → List (Answer K V) → State K V → Type 0
AddsUpThroughout most reads orders old [] [] new = new ≡ old
AddsUpThroughout {K} {V} most reads orders old (call ∷ calls) (given ∷ answers) new =
    (mid : State K V) × Step most reads orders old call given mid × AddsUp most mid.forest × AddsUpThroughout most reads orders mid calls answers new
AddsUpThroughout most reads orders old [] (given ∷ answers) new = ⊥
AddsUpThroughout most reads orders old (call ∷ calls) [] new = ⊥
