use Rattle.bforest.proofs.Loops.{at-end, step-nearer, still-at}
use Rattle.bforest_tests.proofs.callers.loops.goto_end_by_steps.Goals as goal
use Rattle.std.proofs.Common.{ap, refl, sym, ◌∙◌}
use Rattle.std.specs.Option.{is_some}

pub loop-cursor-init : goal.loop-cursor-init
loop-cursor-init g c = refl

pub loop-cursor-smaller : goal.loop-cursor-smaller
loop-cursor-smaller g c = step-nearer c.loop-cursor.cursor c.next.new.self (sym (c.is_some.ensures ∙ ap is_some c.key.ensures.key) ∙ c.loop-cursor-test.true) c.next.ensures.moves

pub loop-cursor-preserved : goal.loop-cursor-preserved
loop-cursor-preserved g c = still-at c.args.cursor.now c.loop-cursor.cursor c.next.new.self _ c.loop-cursor.invariant c.next.ensures.moves

pub returns : goal.returns
returns g c = at-end c.args.cursor.now c.loop-cursor.cursor c.loop-cursor.invariant (sym (c.is_some.ensures ∙ ap is_some c.key.ensures.key) ∙ c.loop-cursor-test.false) c.key.ensures.within
