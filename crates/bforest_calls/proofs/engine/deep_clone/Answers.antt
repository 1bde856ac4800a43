use Rattle.bforest.specs.Calls.{Clones}
use Rattle.bforest_calls.proofs.Comparing.{refuses-more}
use Rattle.bforest_calls.proofs.Indexed.{number-lent}
use Rattle.bforest_calls.proofs.Making.{makes-for}
use Rattle.bforest_calls.proofs.engine.deep_clone.Goals as goal
use Rattle.bforest_calls.specs.Machine.{MakesFor, State}
use Rattle.std.proofs.Common.{get_or, inl, inr, refl, subst, sym, ◌<◌}

pub returns-in-Some : goal.returns-in-Some
returns-in-Some g c =
    let there = subst (λ n. c.args.to < n) (sym (g.met.T.Collection.counted c.args.handles.now)) c.if-to-handles.false in
    λ orders. inl (refuses-more _ _ _ _ c.in-Some.given there c.in-Some.ensures.refused, refl)

pub returns : goal.returns
returns g c =
    let t = g.T.Collection in
    let laws = g.met.T.Collection in
    let xs = c.args.handles.now in
    let f = t.trees c.args.forest.now in
    let there = subst (λ n. c.args.to < n) (sym (laws.counted xs)) c.if-to-handles.false in
    let passed = c.unnamed.ensures.made c.in_default.is in
    let named = number-lent t.number t.numbers laws.counted laws.at xs c.args.from passed.0 c.index-handles-from.result in
    let number = t.number (get_or xs c.args.from c.index-handles-from.result) in
    let old : State g.row.K.Denot g.row.V.Denot = record { forest = f; handles = t.numbers xs } in
    let new : State g.row.K.Denot g.row.V.Denot = record { forest = t.trees c.deep_clone.new.forest; handles = t.numbers c.name.new.handles } in
    let made : MakesFor c.args.to old c.name.result new (Clones f number) =
    makes-for t.number c.deep_clone.result old new (Clones f number) c.deep_clone.ensures.made c.deep_clone.ensures.refused c.name.ensures.made c.name.ensures.refused in
    λ orders. inr ((passed.0, there), passed.1, tt, subst (λ n. MakesFor c.args.to old c.name.result new (Clones f n)) named made)
