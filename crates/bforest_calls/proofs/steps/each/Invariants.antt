use Rattle.bforest_calls.proofs.steps.each.Given as goal
use Rattle.bforest_calls.specs.Steps.{Chain}
use Rattle.std.proofs.Common.{length, take, vec_capacity, vec_len, ◌≡◌, ◌≤◌}

-- the steps so far, in turn; there is room for the other answers
abbrev pub invariant-loop-step : goal.invariant-loop-step
invariant-loop-step g l = record {
  chain : Chain g.S.Steps.goes l.initial.stepper (take l.step-index l.steps) l.sights.items l.stepper;
  ready : g.S.Steps.ready l.stepper;
  told : vec_len l.sights ≡ l.step-index;
  room : length l.steps ≤ vec_capacity l.sights;
}
