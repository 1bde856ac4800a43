use Rattle.bforest.proofs.Loops.{parts-back, parts-first, parts-front, parts-same}
use Rattle.bforest_tests.proofs.callers.loops.take_from_ends.Goals as goal
use Rattle.bforest_tests.proofs.callers.loops.take_from_ends.Goals.{then-is_front+in-Some+in_ok-push, then-is_front+in_default, else-is_front+in-Some-next_back+in_ok-push-2, else-is_front+in_default-next_back}
use Rattle.std.proofs.Common.{ap, sym, ◌∙◌}

pub loop-is_front-init : goal.loop-is_front-init
loop-is_front-init g c = parts-first c.args.range.now c.new-front.result.items c.new-back.result.items c.new-front.ensures.items c.new-back.ensures.items

pub loop-is_front-preserved : goal.loop-is_front-preserved
loop-is_front-preserved g c =
    let all = c.args.range.now in
    let l = c.loop-is_front in
    let now = c.if-is_front in
    elim now.branch [
      | then-is_front+in-Some+in_ok-push w ↦ parts-same all _ now.front.items w.next.new.self now.range l.back.items now.back.items
          (ap (λ v. v.items) w.front-is ∙ w.in_ok-push.ensures.items) w.range-is (ap (λ v. v.items) w.back-is)
          (parts-front all l.front.items l.range l.back.items w.next.new.self w.in-Some.entry l.invariant w.in-Some.ensures.steps)
      | then-is_front+in_default w ↦ parts-same all l.front.items now.front.items l.range now.range l.back.items now.back.items
          (ap (λ v. v.items) w.front-is) (w.range-is ∙ w.in_default.ensures.steps.1 ∙ sym w.in_default.ensures.steps.0) (ap (λ v. v.items) w.back-is) l.invariant
      | else-is_front+in-Some-next_back+in_ok-push-2 w ↦ parts-same all l.front.items now.front.items w.next_back.new.self now.range _ now.back.items
          (ap (λ v. v.items) w.front-is) w.range-is (ap (λ v. v.items) w.back-is ∙ w.in_ok-push-2.ensures.items)
          (parts-back all l.front.items l.range l.back.items w.next_back.new.self w.in-Some-next_back.entry l.invariant w.in-Some-next_back.ensures.steps)
      | else-is_front+in_default-next_back w ↦ parts-same all l.front.items now.front.items l.range now.range l.back.items now.back.items
          (ap (λ v. v.items) w.front-is) (w.range-is ∙ w.in_default-next_back.ensures.steps.1 ∙ sym w.in_default-next_back.ensures.steps.0) (ap (λ v. v.items) w.back-is) l.invariant
    ]

pub returns : goal.returns
returns g c = record { parted = c.loop-is_front.invariant }
