use Rattle.bforest_calls.proofs.Chains.{chain-next, chain-whole, pushed, room-stays}
use Rattle.bforest_calls.proofs.steps.each.Goals as goal
use Rattle.std.proofs.Common.{ap, length, refl, ◌+◌, ◌∙◌}
use Rattle.std.specs.Prelude.{is_ok}

pub loop-step-preserved : goal.loop-step-preserved
loop-step-preserved g c =
    let l = c.loop-step in
    let e = c.step-sight.ensures in
    record {
      chain = chain-next g.S.Steps.goes c.args.stepper.now c.args.steps.now l.step-index l.sights.items l.stepper c.step-item.result c.step-sight.result
          c.step-sight.new.self c.push.new.self.items
          l.invariant.chain e.goes c.loop-step-test.true c.step-item.is (pushed (is_ok c.push.result) _ _ _ (ap is_ok c.unwrap.ensures) c.push.ensures.items);
      ready = e.ready;
      told = pushed (is_ok c.push.result) _ _ _ (ap is_ok c.unwrap.ensures) c.push.ensures.len ∙ ap (λ n. n + 1) l.invariant.told;
      room = room-stays (length c.args.steps.now) _ _ l.invariant.room c.push.ensures.capacity;
    }

pub returns-clause-chain : goal.returns-clause-chain
returns-clause-chain g c =
    let l = c.loop-step in
    let chain = chain-whole g.S.Steps.goes c.args.stepper.now c.args.steps.now l.step-index l.sights.items l.stepper l.invariant.chain
    c.loop-step-test.false in
    (l.sights, refl, chain)
