use Rattle.bforest_calls.proofs.engine.make_by.Goals as goal
use Rattle.bforest_calls.specs.Machine.{State, Step}
use Rattle.std.proofs.Common.{map, subst, sym, ◌∙◌}

pub returns-else-READS-clause-step : goal.returns-else-READS-clause-step
returns-else-READS-clause-step g c =
    let t = g.T.Collection in
    let state : State g.row.K.Denot g.row.V.Denot = record { forest = t.trees c.args.forest.now; handles = t.numbers c.args.handles.now } in
    subst (λ r. Step t.most r (map g.C.Comparator.order c.args.comps.now) state c.args.call.now c.not_offered.result state)
    (sym (sym c.READS.ensures ∙ c.if-READS.false)) (c.not_offered.ensures state.forest)

pub returns-in-Retain-clause-step : goal.returns-in-Retain-clause-step
returns-in-Retain-clause-step g c = rw c.in-Retain.is c.retain.ensures

pub returns-in-Clear-clause-step : goal.returns-in-Clear-clause-step
returns-in-Clear-clause-step g c = rw c.in-Clear.is (c.clear.ensures (map g.C.Comparator.order c.args.comps.now))

pub returns-in-Iter-clause-step : goal.returns-in-Iter-clause-step
returns-in-Iter-clause-step g c = rw c.in-Iter.is (c.iter.ensures.step (map g.C.Comparator.order c.args.comps.now))

pub returns-in-Alias-clause-step : goal.returns-in-Alias-clause-step
returns-in-Alias-clause-step g c = rw c.in-Alias.is (c.alias.ensures (map g.C.Comparator.order c.args.comps.now) (g.T.Collection.trees c.args.forest.now))

pub returns-in-Iter-clause-room : goal.returns-in-Iter-clause-room
returns-in-Iter-clause-room g c = rw c.in-Iter.is (c.iter.ensures.room (map g.C.Comparator.order c.args.comps.now))

pub returns-in-IterBack-clause-step : goal.returns-in-IterBack-clause-step
returns-in-IterBack-clause-step g c = rw c.in-IterBack.is (c.iter_back.ensures.step (map g.C.Comparator.order c.args.comps.now))

pub returns-in-IterBack-clause-room : goal.returns-in-IterBack-clause-room
returns-in-IterBack-clause-room g c = rw c.in-IterBack.is (c.iter_back.ensures.room (map g.C.Comparator.order c.args.comps.now))

pub returns-in-DeepClone-clause-step : goal.returns-in-DeepClone-clause-step
returns-in-DeepClone-clause-step g c = rw c.in-DeepClone.is (c.deep_clone.ensures (map g.C.Comparator.order c.args.comps.now))

pub returns-in-Load-clause-step : goal.returns-in-Load-clause-step
returns-in-Load-clause-step g c = rw c.in-Load.is (c.load.ensures.step (map g.C.Comparator.order c.args.comps.now))

pub returns-in-Load-clause-room : goal.returns-in-Load-clause-room
returns-in-Load-clause-room g c = rw c.in-Load.is (c.load.ensures.room (map g.C.Comparator.order c.args.comps.now))

pub returns-in-SplitOff-clause-step : goal.returns-in-SplitOff-clause-step
returns-in-SplitOff-clause-step g c = rw c.in-SplitOff.is c.split_off.ensures
