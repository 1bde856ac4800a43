use Rattle.bforest.proofs.Sets.{whole-each, with_each}
use Rattle.bforest_trees.proofs.Increasing.{IncreasesAfter, IsDownTo, IsDownTo-next, alone, not_increasing}
use Rattle.bforest.proofs.set.Set.increases.Goals as goal
use Rattle.bforest.specs.Forest.{list_of}
use Rattle.std.proofs.Common.{ap, None, refl, subst, sym, ◌∙◌}
use Rattle.std.specs.Map.{keys_of}

pub keys-init : goal.keys-init
keys-init g c = (
  c.iter-key-items.ensures.fits,
  subst (IsDownTo (g.C.Comparator.order c.args.comp.now) (list_of c.args.forest.now c.args.self.now) None)
      (sym (ap with_each (c.into_iter-key-iterator.ensures.into_iter_gives ∙ c.iter-key-items.ensures.keys) ∙ whole-each _))
      (record { down = λ up. up; up = λ up. up }),
)

pub returns-then-not-follows : goal.returns-then-not-follows
returns-then-not-follows g c = record {
  increasing = (
    λ no. absurd (cc),
    λ up. absurd (not_increasing _ (g.met.C.Comparator.total c.args.comp.now) _ _ _ _ _ _
        (ap with_each c.in-Some.ensures.steps) (sym c.if-not-follows.true ∙ c.follows.ensures) c.keys.invariant.1 up),
  );
}

pub keys-preserved : goal.keys-preserved
keys-preserved g c = (
  c.keys.invariant.0,
  IsDownTo-next _ (g.met.C.Comparator.total c.args.comp.now) _ _ _ _ _ _ (ap with_each c.in-Some.ensures.steps)
      (sym c.if-not-follows.false ∙ c.follows.ensures) c.keys.invariant.1,
)

pub returns : goal.returns
returns g c =
    let order = g.C.Comparator.order c.args.comp.now in
    let none = subst (λ es. IncreasesAfter order c.keys.last (keys_of es)) (sym (ap with_each c.in-None.ensures.steps.0)) (alone order c.keys.last) in
    record { increasing = (λ yes. c.keys.invariant.1.up none, λ up. refl) }
