use Rattle.bforest_core.proofs.Words.{None, Some, rules, arith, nil_from_length, length-append, ◌∷◌}
use Rattle.bforest_core.proofs.removal.{Lifted.top_one, Neighbours.{key_same, key_up, one_seen, up_asks}}
use Rattle.bforest_core.proofs.path.Path.key_behind.Goals as goal

pub loop-up-init : goal.loop-up-init
loop-up-init g c = λ w. (w, λ o is. is)

pub entries-requires : goal.entries-requires
entries-requires g c = let v = (c.loop-up.invariant c.requires.pending).0 in
    (search rules, (one_seen v (λ e. omega (arith, e, c.loop-up-test.true)) _ (omega arith) c.requires.height).node_asks)

pub separator-requires : goal.separator-requires
separator-requires g c = let v = (c.loop-up.invariant c.requires.pending).0 in
    (search rules, (one_seen v (λ e. omega (arith, e, c.loop-up-test.true)) _ (omega arith) c.requires.height).key_asks _ _ c.entries.ensures.value c.if-index-entries.true)

pub returns-then-index-entries : goal.returns-then-index-entries
returns-then-index-entries g c = λ w. let i = c.loop-up.invariant w in
    i.1 (Some c.separator.result) (key_same (one_seen i.0 (λ e. omega (arith, e, c.loop-up-test.true)) _ (omega arith) c.requires.height) _ c.entries.ensures.value _ c.if-index-entries.true c.separator.ensures)

pub loop-up-preserved : goal.loop-up-preserved
loop-up-preserved g c = λ w. let i = c.loop-up.invariant w in
    let s = one_seen i.0 (λ e. omega (arith, e, c.loop-up-test.true)) _ (omega arith) c.requires.height in
    (up_asks s.d, λ o is. i.1 o (key_up s _ c.entries.ensures.value c.if-index-entries.false o is))

pub returns : goal.returns
returns g c = λ w. let i = c.loop-up.invariant w in let v = i.0 in let one = top_one v.above c.loop-up-test.false in
    i.1 None (nil_from_length v.after (omega (arith, one, length-append v.before (v.x ∷ v.after))))
