use Rattle.bforest_trees.proofs.merge.take_least.Goals as goal
use Rattle.bforest_trees.proofs.merge.take_least.Goals.{else-is_eq, then-is_eq}
use Rattle.bforest_trees.proofs.unions.Fronts.{least-equal, least-first, least-greater, least-less, least-second}
use Rattle.std.proofs.Common.{ap, rules, sym, ◌∙◌}

pub returns-then-not-goes_on : goal.returns-then-not-goes_on
returns-then-not-goes_on g c = record {
  least = least-second c.args.pool.now (g.C.Comparator.order c.args.comp.now) c.args.first.now c.args.second.now c.requires.first (c.goes_on.ensures.none c.if-not-goes_on.true)
      c.goes_on.new.self (c.goes_on.ensures.same c.if-not-goes_on.true) c.take_next.result c.take_next.new.self c.take_next.ensures.steps c.take_next.ensures.reader;
  root = c.goes_on.ensures.root;
  second_root = c.take_next.ensures.root;
}

pub take_first-requires : goal.take_first-requires
take_first-requires g c = let e = c.goes_on.ensures.entered c.if-not-goes_on.false in (search rules, (e.within, e.same))

pub key-requires : goal.key-requires
key-requires g c = (search rules, (c.goes_on.ensures.entered c.if-not-goes_on.false).within)

pub key-requires-2 : goal.key-requires-2
key-requires-2 g c = (search rules, (c.goes_on-2.ensures.entered c.if-not-goes_on-2.false).within)

pub take_first-requires-then-is_gt : goal.take_first-requires-then-is_gt
take_first-requires-then-is_gt g c = let e = c.goes_on-2.ensures.entered c.if-not-goes_on-2.false in (search rules, (e.within, e.same))

pub pass-requires : goal.pass-requires
pass-requires g c = (search rules, (c.goes_on-2.ensures.entered c.if-not-goes_on-2.false).within)

pub take_first-requires-2 : goal.take_first-requires-2
take_first-requires-2 g c = let e = c.goes_on.ensures.entered c.if-not-goes_on.false in (search rules, (e.within, e.same))

pub returns-then-not-goes_on-2 : goal.returns-then-not-goes_on-2
returns-then-not-goes_on-2 g c = let e = c.goes_on.ensures.entered c.if-not-goes_on.false in let f = c.take_first in record {
  least = least-first c.args.pool.now (g.C.Comparator.order c.args.comp.now) c.args.first.now c.args.second.now c.requires.first e c.requires.second
      (c.goes_on-2.ensures.none c.if-not-goes_on-2.true) c.goes_on-2.new.self (c.goes_on-2.ensures.same c.if-not-goes_on-2.true)
      f.result f.new.self f.ensures.key f.ensures.value f.ensures.rest;
  root = ap (λ z. z.root) f.ensures.rest ∙ c.goes_on.ensures.root;
  second_root = c.goes_on-2.ensures.root;
}

pub returns-then-is_gt : goal.returns-then-is_gt
returns-then-is_gt g c = let e = c.goes_on.ensures.entered c.if-not-goes_on.false in let d = c.goes_on-2.ensures.entered c.if-not-goes_on-2.false in let f = c.take_first-then-is_gt in record {
  least = least-greater c.args.pool.now (g.C.Comparator.order c.args.comp.now) c.args.first.now c.args.second.now c.requires.first e d c.key.ensures.key c.key-2.ensures.key c.cmp-order.ensures f.result
      (sym c.is_gt.ensures ∙ c.if-is_gt.true) f.new.self f.ensures.key f.ensures.value f.ensures.rest;
  root = c.goes_on.ensures.root;
  second_root = ap (λ z. z.root) f.ensures.rest ∙ c.goes_on-2.ensures.root;
}

pub returns : goal.returns
returns g c = let e = c.goes_on.ensures.entered c.if-not-goes_on.false in let d = c.goes_on-2.ensures.entered c.if-not-goes_on-2.false in let f = c.take_first-2 in
    let not_greater = sym c.is_gt.ensures ∙ c.if-is_gt.false in record {
      least = elim c.if-is_eq.branch [
        | then-is_eq w ↦ least-equal c.args.pool.now (g.C.Comparator.order c.args.comp.now) c.args.first.now c.args.second.now c.requires.first e d c.key.ensures.key c.key-2.ensures.key c.cmp-order.ensures f.result
            not_greater f.new.self c.if-is_eq.second f.ensures.key f.ensures.value f.ensures.rest (sym c.is_eq.ensures ∙ w.if-is_eq.true) (w.second-is ∙ w.pass.ensures.rest)
        | else-is_eq w ↦ least-less c.args.pool.now (g.C.Comparator.order c.args.comp.now) c.args.first.now c.args.second.now c.requires.first e d c.key.ensures.key c.key-2.ensures.key c.cmp-order.ensures f.result
            not_greater f.new.self c.if-is_eq.second f.ensures.key f.ensures.value f.ensures.rest (sym c.is_eq.ensures ∙ w.if-is_eq.false) w.second-is
      ];
      root = ap (λ z. z.root) f.ensures.rest ∙ c.goes_on.ensures.root;
      second_root = elim c.if-is_eq.branch [
        | then-is_eq w ↦ ap (λ z. z.root) (w.second-is ∙ w.pass.ensures.rest) ∙ c.goes_on-2.ensures.root
        | else-is_eq w ↦ ap (λ z. z.root) w.second-is ∙ c.goes_on-2.ensures.root
      ];
    }
