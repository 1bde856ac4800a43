use Rattle.bforest_calls.proofs.Telling.{made-tells}
use Rattle.bforest_calls.proofs.engine.known_by.Goals as goal

pub returns-in_default : goal.returns-in_default
returns-in_default g c = let d = c.in_default in
    λ most reads orders old new step.
    made-tells orders old c.args.given.now new (d.not-NoIndex, d.not-Dead, d.not-Unordered, d.not-NotOffered) most reads c.args.call.now c.kept_by.result c.kept_by.ensures.keeping step
