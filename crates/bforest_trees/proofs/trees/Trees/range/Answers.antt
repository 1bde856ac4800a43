use Rattle.std.proofs.Common.{None, Option, Some, ap, rules, subst, sym, ◌∙◌, ◌≡◌, ℕ}
use Rattle.bforest_nodes.specs.Entries.{IsIncreasing}
use Rattle.bforest_trees.proofs.Changed.{list-root, live-root}
use Rattle.bforest_trees.proofs.ranges.Narrowing.{none-left, none-range, root-told}
use Rattle.bforest_trees.specs.Bounds.{entries_between}
use Rattle.bforest_trees.specs.Forest.{IsLive, list_of}
use Rattle.bforest_trees.specs.Range.{IsRange}
use Rattle.bforest_trees.proofs.trees.Trees.range.Goals as goal

pub narrow-requires : goal.narrow-requires
narrow-requires g c =
    let cmp = g.C.Comparator.order c.args.comp.now in
    let pool = c.self.inside.pool in
    let some : c.args.handle ≡ Some c.in-Some.root = sym c.expand.ensures.value ∙ c.in-Some.is in
    let root = live-root pool c.in-Some.root (subst (λ (h : Option ℕ). IsLive pool h) some (rw (← c.self.view_is) at c.requires.live)) in
    let up = subst (λ (h : Option ℕ). IsIncreasing cmp (list_of pool h)) some (rw (← c.self.view_is) at c.requires.increasing) in
    (search rules, (c.self.invariant, (root, (subst (λ l. IsIncreasing cmp l) (list-root pool c.in-Some.root root) up, c.all-ends.ensures.fresh))))

pub returns-in-None : goal.returns-in-None
returns-in-None g c =
    let cmp = g.C.Comparator.order c.args.comp.now in
    let f = c.args.self.now in
    let none : c.args.handle ≡ None = sym c.expand.ensures.value ∙ c.in-None.is in
    record {
      left = none-left f 0 c.all-ends.ensures.fresh c.args.handle ∙ sym (ap (λ h. entries_between cmp c.args.bounds.0 c.args.bounds.1 (list_of f h)) none);
      range = none-range f 0 c.all-ends.ensures.fresh c.args.handle;
    }

pub returns-in-Some : goal.returns-in-Some
returns-in-Some g c =
    let pool = c.self.inside.pool in
    let some : c.args.handle ≡ Some c.in-Some.root = sym c.expand.ensures.value ∙ c.in-Some.is in
    let root = live-root pool c.in-Some.root (subst (λ (h : Option ℕ). IsLive pool h) some (rw (← c.self.view_is) at c.requires.live)) in
    let n = c.narrow in
    rw (← c.self.view_is) (record {
      left = root-told pool c.in-Some.root (g.C.Comparator.order c.args.comp.now) c.args.bounds.0 c.args.bounds.1 n.new.self root some n.ensures.left;
      range = subst (λ (h : Option ℕ). IsRange pool h n.new.self) (sym some) n.ensures.range;
    })
