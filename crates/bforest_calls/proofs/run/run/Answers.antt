use Rattle.bforest_calls.proofs.Chains.{pushed, room-stays}
use Rattle.bforest_calls.proofs.Runs.{may-stop, not-none, on_err_from, run_next, run_same, run_whole}
use Rattle.bforest_calls.proofs.Slots.{none-learned}
use Rattle.bforest_calls.proofs.run.run.Goals as goal
use Rattle.bforest_calls.specs.Machine.{IsKnown, State}
use Rattle.std.proofs.Common.{[], ap, arith, length, map, refl, rules, ◌+◌, ◌∙◌}
use Rattle.std.proofs.lemmas.Bool.{false≢true}
use Rattle.std.specs.Prelude.{is_ok}

pub returns-in_err-answers-clause-err : goal.returns-in_err-answers-clause-err
returns-in_err-answers-clause-err g c =
    on_err_from c.from_residual.result (0, [], refl, (not-none (length c.args.calls.now) (λ none. false≢true (c.in_err-answers.ensures.succeeds none)), λ positive. absurd (omega (arith, positive))))

pub returns-in_err-given-clause-err : goal.returns-in_err-given-clause-err
returns-in_err-given-clause-err g c =
    let t = g.T.Collection in
    let l = c.loop-call in
    on_err_from c.from_residual-in_err-given.result (
      l.call-index,
      l.answers.items,
      run_same t.most g.met.T.Collection.odd t.READS (map g.C.Comparator.order c.args.comps.now)
          (record { forest = t.trees c.args.forest.now; handles = t.numbers c.args.handles.now }) _ l.answers.items
          (record { forest = t.trees l.forest; handles = t.numbers l.handles })
          (record { forest = t.trees c.make.new.forest; handles = t.numbers c.make.new.handles })
          l.invariant.run (ap t.trees c.in_err-given.ensures.err_forest) (ap t.numbers c.in_err-given.ensures.err_handles),
      may-stop t.READS (map g.C.Comparator.order c.args.comps.now) c.args.calls.now l.call-index c.call-item.result
          (record { forest = t.trees l.forest; handles = t.numbers l.handles })
          (record { forest = t.trees c.make.new.forest; handles = t.numbers c.make.new.handles }) c.loop-call-test.true c.call-item.is
          (ap t.trees c.in_err-given.ensures.err_forest) (ap t.numbers c.in_err-given.ensures.err_handles) c.in_err-given.ensures.room,
    )

pub loop-call-init : goal.loop-call-init
loop-call-init g c =
    let t = g.T.Collection in
    let state : State g.row.K.Denot g.row.V.Denot = record { forest = t.trees c.args.forest.now; handles = t.numbers c.args.handles.now } in
    record {
      run = search rules;
      known = none-learned (IsKnown (map g.C.Comparator.order c.args.comps.now) state) c.new-known.result.slots tt c.new-known.ensures.none;
      told = search rules;
      room = search rules;
    }

pub loop-call-preserved : goal.loop-call-preserved
loop-call-preserved g c =
    let t = g.T.Collection in
    let l = c.loop-call in
    record {
      run = run_next t.most g.met.T.Collection.odd t.READS (map g.C.Comparator.order c.args.comps.now)
          (record { forest = t.trees c.args.forest.now; handles = t.numbers c.args.handles.now }) c.args.calls.now l.call-index l.answers.items
          (record { forest = t.trees l.forest; handles = t.numbers l.handles }) c.call-item.result c.in_ok-given.given
          (record { forest = t.trees c.make.new.forest; handles = t.numbers c.make.new.handles }) c.push.new.self.items
          l.invariant.run c.in_ok-given.ensures.step c.loop-call-test.true c.call-item.is
          (pushed (is_ok c.push.result) _ _ _ (ap is_ok c.unwrap.ensures) c.push.ensures.items);
      known = c.make.ensures.known;
      told = pushed (is_ok c.push.result) _ _ _ (ap is_ok c.unwrap.ensures) c.push.ensures.len ∙ ap (λ n. n + 1) l.invariant.told;
      room = room-stays (length c.args.calls.now) _ _ l.invariant.room c.push.ensures.capacity;
    }

pub returns-clause-run : goal.returns-clause-run
returns-clause-run g c =
    let t = g.T.Collection in
    let l = c.loop-call in
    run_whole t.most g.met.T.Collection.odd t.READS (map g.C.Comparator.order c.args.comps.now)
    (record { forest = t.trees c.args.forest.now; handles = t.numbers c.args.handles.now }) c.args.calls.now l.call-index l.answers.items
    (record { forest = t.trees l.forest; handles = t.numbers l.handles }) l.invariant.run c.loop-call-test.false
