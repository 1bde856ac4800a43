use Rattle.bforest_core.proofs.{Words.{rules, refl, arith}, walks.Cousins.last-low}
use Rattle.bforest_core.proofs.spot.Spot.next.Goals as goal

pub has_next-requires : goal.has_next-requires
has_next-requires g c = (search rules, (search rules, λ some. record { root = c.args.root; place = (c.requires.spot some).0; is = (c.requires.spot some).1 }))

pub next_sibling-requires : goal.next_sibling-requires
next_sibling-requires g c = let h = c.has_next.ensures.next c.if-has_next.true in let s = c.requires.spot (λ none. omega arith) in
    (search rules, (search rules, ((record { root = c.args.root; place = s.0; is = s.1 }), h)))

pub returns-then-has_next : goal.returns-then-has_next
returns-then-has_next g c = record {
  some = λ place s. (c.next_sibling.ensures.spot _ place s, c.next_sibling.ensures.leaf _ place s);
  none = λ bad. absurd (let no = bad in cc);
  alone = λ alone. absurd (omega (arith, (c.has_next.ensures.next c.if-has_next.true).some));
}

pub returns-then-self-lt2 : goal.returns-then-self-lt2
returns-then-self-lt2 g c = record {
  none = λ none place s. last-low c.requires.union s (c.has_next.ensures.none c.if-has_next.false) c.if-self-lt2.true;
  some = tt;
  alone = λ alone. refl;
}

pub next_cousin-requires : goal.next_cousin-requires
next_cousin-requires g c = (search rules, (search rules, (c.requires.spot (λ none. omega arith), (omega arith, c.has_next.ensures.none c.if-has_next.false))))

pub returns : goal.returns
returns g c = record { some = c.next_cousin.ensures.some; none = c.next_cousin.ensures.none; alone = λ alone. absurd (omega arith) }
