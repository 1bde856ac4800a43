use Rattle.bforest_calls.proofs.Pairing.{told-here, told-last, told-next}
use Rattle.bforest_calls.proofs.shift.new_key.Goals as goal
use Rattle.std.proofs.Common.{refl, sym, ◌∙◌}

pub loop-pair-init : goal.loop-pair-init
loop-pair-init g c = refl

pub returns-then-eq : goal.returns-then-eq
returns-then-eq g c = told-here (g.C.Comparator.order c.args.comp.now) c.args.keys.now c.args.key c.loop-pair.invariant c.pair-item.result c.loop-pair-test.true
    c.pair-item.is c.cmp.ensures (sym c.eq.ensures ∙ c.if-eq.true)

pub loop-pair-preserved : goal.loop-pair-preserved
loop-pair-preserved g c = told-next (g.C.Comparator.order c.args.comp.now) c.args.keys.now c.args.key c.loop-pair.invariant c.pair-item.result c.loop-pair-test.true
    c.pair-item.is c.cmp.ensures (sym c.eq.ensures ∙ c.if-eq.false)

pub returns : goal.returns
returns g c = told-last (g.C.Comparator.order c.args.comp.now) c.args.keys.now c.args.key c.loop-pair.invariant c.loop-pair-test.false
