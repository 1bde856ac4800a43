use Rattle.bforest_tests.proofs.callers.sets.is_in_either.Goals as goal
use Rattle.std.proofs.Common.{ap, sym, ◌||◌, ◌∙◌}
use Rattle.std.specs.List.{list_any}
use Rattle.std.specs.Ordering.{is_eq}

pub keys-init : goal.keys-init
keys-init g c = (
  c.union-each-items.ensures.fits,
  ap (list_any (λ k. is_eq (g.C.Comparator.order c.args.comp.now k c.args.key))) (sym (c.into_iter-each-iterator.ensures.into_iter_gives ∙ c.union-each-items.ensures.keys)),
)

pub returns-then-is_eq : goal.returns-then-is_eq
returns-then-is_eq g c = sym (c.keys.invariant.1 ∙ ap (list_any (λ k. is_eq (g.C.Comparator.order c.args.comp.now k c.args.key))) c.in-Some.ensures.steps
    ∙ ap (λ b. b || list_any (λ k. is_eq (g.C.Comparator.order c.args.comp.now k c.args.key)) c.next.new.self) (ap is_eq (sym c.cmp.ensures) ∙ sym c.is_eq.ensures ∙ c.if-is_eq.true))

pub keys-preserved : goal.keys-preserved
keys-preserved g c = (
  c.keys.invariant.0,
  c.keys.invariant.1 ∙ ap (list_any (λ k. is_eq (g.C.Comparator.order c.args.comp.now k c.args.key))) c.in-Some.ensures.steps
      ∙ ap (λ b. b || list_any (λ k. is_eq (g.C.Comparator.order c.args.comp.now k c.args.key)) c.next.new.self) (ap is_eq (sym c.cmp.ensures) ∙ sym c.is_eq.ensures ∙ c.if-is_eq.false),
)

pub returns : goal.returns
returns g c = sym (c.keys.invariant.1 ∙ ap (list_any (λ k. is_eq (g.C.Comparator.order c.args.comp.now k c.args.key))) c.in-None.ensures.steps.0)
