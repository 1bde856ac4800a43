use Rattle.bforest_calls.proofs.Comparing.{refuses-more}
use Rattle.bforest_calls.proofs.Indexed.{order-there}
use Rattle.bforest_calls.proofs.Slots.{any-of}
use Rattle.bforest_calls.proofs.engine.refusal.Goals as goal
use Rattle.bforest_calls.specs.Machine.{IsKnown, Orders, State}
use Rattle.std.proofs.Common.{None, map, rules, subst, sym, ◌%◌}

pub returns-then-eq-clause-made : goal.returns-then-eq-clause-made
returns-then-eq-clause-made g c =
    let t = g.T.Collection in
    let orders : Orders g.row.K.Denot = map g.C.Comparator.order c.args.comps.now in
    let state : State g.row.K.Denot g.row.V.Denot = record { forest = t.trees c.args.forest.now; handles = t.numbers c.args.handles.now } in
    let known : IsKnown orders state c.of-known.result =
    subst (IsKnown orders state) (sym c.of-known.ensures) (any-of (IsKnown orders state) c.args.known.now.slots (c.args.h % 8) None tt c.requires.known) in
    search rules

pub returns-in-Some-clause-refused : goal.returns-in-Some-clause-refused
returns-in-Some-clause-refused g c =
    refuses-more _ _ _ _ c.in-Some.given (order-there g.C.Comparator.order c.args.comps.now c.args.c c.if-c-comps.false) c.in-Some.ensures.refused
