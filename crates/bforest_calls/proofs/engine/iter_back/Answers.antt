use Rattle.bforest.specs.Forest.{list_of}
use Rattle.bforest_calls.proofs.Indexed.{number-at}
use Rattle.bforest_calls.proofs.Runs.{on_err_from}
use Rattle.bforest_calls.proofs.engine.iter_back.Goals as goal
use Rattle.std.proofs.Common.{ap, inr, refl, reverse, ◌∙◌}

pub returns-clause-step : goal.returns-clause-step
returns-clause-step g c =
    let t = g.T.Collection in
    let passed = c.unnamed.ensures.made c.in_default.is in
    let number = number-at t.number t.numbers g.met.T.Collection.counted g.met.T.Collection.at c.args.handles.now c.args.h passed.0 c.index-handles-h.result
    c.index-handles-h.is in
    λ orders. inr (passed.0, passed.1, tt, (c.in_ok-pairs.pairs, refl, c.in_ok-pairs.ensures.entries ∙ ap (λ n. reverse (list_of (t.trees c.args.forest.now) n)) number, refl))

pub returns-in_err-pairs-clause-room : goal.returns-in_err-pairs-clause-room
returns-in_err-pairs-clause-room g c = λ orders. on_err_from c.from_residual.result (c.unnamed.ensures.made c.in_default.is)
