use Rattle.bforest_trees.proofs.Changed.{list-root, live-root}
use Rattle.bforest_trees.proofs.Reading.{standing}
use Rattle.bforest_trees.proofs.trees.Trees.path_to_first.Goals as goal
use Rattle.bforest_trees.specs.Forest.{IsLive, list_of}
use Rattle.std.proofs.Common.{Option, Some, ap, rules, subst, sym, ◌∙◌, ◌≡◌, ℕ}

pub first-requires : goal.first-requires
first-requires g c =
    let pool = c.self.inside.pool in
    let handle : c.args.handle ≡ Some c.in-Some.root = sym c.expand.ensures.value ∙ c.in-Some.is in
    let root = live-root pool c.in-Some.root (subst (λ (h : Option ℕ). IsLive pool h) handle (rw (← c.self.view_is) at c.requires.live)) in
    (search rules, (search rules, (c.self.invariant, root)))

pub returns-in-Some-clause-on : goal.returns-in-Some-clause-on
returns-in-Some-clause-on g c = rw (← c.self.view_is) (record { union = c.self.invariant; stands = λ some. record { root = c.in-Some.root; place = 0; on = c.first.ensures.stands } })

pub returns-in-Some-clause-entries : goal.returns-in-Some-clause-entries
returns-in-Some-clause-entries g c =
    let pool = c.self.inside.pool in
    let root = c.in-Some.root in
    let handle : Some root ≡ c.args.handle = sym c.in-Some.is ∙ c.expand.ensures.value in
    rw (← c.self.view_is) (standing pool root c.first.new.self 0 c.self.invariant c.first.ensures.stands ∙ sym (list-root pool root c.first.ensures.stands.root_is) ∙ ap (λ (h : Option ℕ). list_of pool h) handle)
