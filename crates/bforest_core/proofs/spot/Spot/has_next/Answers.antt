use Rattle.bforest_core.proofs.Words.{rules, ◌+◌, ◌%◌, inl, inr, sym, ◌∙◌, arith, cases_lt, false≢true, lt-ltb, ltb-true}
use Rattle.bforest_core.proofs.walks.Codes.{count-asks, leaf-parent, spot-has, spot-last}
use Rattle.bforest_core.proofs.spot.Spot.has_next.Goals as goal

pub child_count-requires : goal.child_count-requires
child_count-requires g c = (search rules, count-asks (leaf-parent c.requires.union (c.requires.spot c.if-self-eq0.false).is (omega arith)))

pub returns : goal.returns
returns g c = record {
  next = λ yes. spot-has c.requires.union (c.requires.spot c.if-self-eq0.false).is (omega arith) c.child_count.ensures.value (ltb-true (c.args.self.now.code % 8 + 1) c.child_count.result yes);
  none = λ no. elim (cases_lt (c.args.self.now.code % 8 + 1) c.child_count.result) [
    | inl low ↦ absurd (false≢true (sym no ∙ lt-ltb (c.args.self.now.code % 8 + 1) c.child_count.result low))
    | inr past ↦ spot-last c.requires.union (c.requires.spot c.if-self-eq0.false).is (omega arith) c.child_count.ensures.value past
  ];
}
