use Rattle.std.proofs.Common.{Option, Some, ap, rules, subst, sym, ◌∙◌, ◌≡◌, ℕ}
use Rattle.bforest_trees.specs.Forest.{IsLive, list_of}
use Rattle.bforest_trees.proofs.Changed.{list-root, live-root}
use Rattle.bforest_trees.proofs.reader.Reader.new.Goals as goal

pub of-requires : goal.of-requires
of-requires g c =
    let pool = c.trees.inside.pool in
    let handle : c.args.handle ≡ Some c.in-Some.root = sym c.expand.ensures.value ∙ c.in-Some.is in
    let live = rw (← c.trees.view_is) at c.requires.live in
    let root = live-root pool c.in-Some.root (subst (λ (h : Option ℕ). IsLive pool h) handle live) in
    (search rules, (search rules, (c.trees.invariant, root)))

pub returns-in-Some-clause-left : goal.returns-in-Some-clause-left
returns-in-Some-clause-left g c =
    let pool = c.trees.inside.pool in
    let handle : c.args.handle ≡ Some c.in-Some.root = sym c.expand.ensures.value ∙ c.in-Some.is in
    let live = rw (← c.trees.view_is) at c.requires.live in
    let root = live-root pool c.in-Some.root (subst (λ (h : Option ℕ). IsLive pool h) handle live) in
    rw (← c.trees.view_is) (c.of.ensures.left ∙ sym (ap (λ (h : Option ℕ). list_of pool h) handle ∙ list-root pool c.in-Some.root root))
