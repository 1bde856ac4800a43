use Rattle.bforest_core.proofs.Words.{rules, arith}
use Rattle.bforest_core.proofs.spot.Spot.prev.Goals as goal

pub prev_sibling-requires : goal.prev_sibling-requires
prev_sibling-requires g c = let h = c.has_prev.ensures.prev c.if-has_prev.true in let s = c.requires.spot (λ none. omega arith) in
    (search rules, (search rules, ((record { root = c.args.root; place = s.0; is = s.1 }), h)))

pub returns-then-has_prev : goal.returns-then-has_prev
returns-then-has_prev g c = record {
  some = c.prev_sibling.ensures.before _;
  none = λ bad. absurd (let no = bad in cc);
  alone = λ alone. absurd (omega (arith, (c.has_prev.ensures.prev c.if-has_prev.true).0));
}

pub prev_other-requires : goal.prev_other-requires
prev_other-requires g c = (search rules, (search rules, (c.requires.spot, c.has_prev.ensures.none c.if-has_prev.false)))
