use Rattle.bforest.specs.Calls.{Loads}
use Rattle.bforest.specs.Refusal.{OutOfMemory}
use Rattle.bforest_calls.proofs.Making.{when-err, when-ok}
use Rattle.bforest_calls.proofs.sets.SetCollectionUnit.load.Goals as goal
use Rattle.bforest_calls.specs.Looks.{with_each}
use Rattle.std.proofs.Common.{Option, Result, ap, subst, ◌∙◌, ℕ}

pub returns : goal.returns
returns g c =
    let loads : Result (Option ℕ) OutOfMemory → Type 0 = λ r. Loads 15 c.args.forest.now c.args.entries.now r c.load.new.forest in
    let made : loads c.load.result = subst (λ es. Loads 15 c.args.forest.now es c.load.result c.load.new.forest) (ap with_each c.deref.ensures.value ∙ c.in_ok-keys.ensures.keys) c.load.ensures in
    record { made = when-ok loads c.load.result made; refused = when-err loads c.load.result made; room = tt; err_forest = tt }
