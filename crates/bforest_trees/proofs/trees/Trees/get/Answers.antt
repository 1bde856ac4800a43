use Rattle.bforest_trees.proofs.Changed.{seen-as, seen-asks}
use Rattle.bforest_trees.proofs.trees.Trees.get.Goals as goal
use Rattle.bforest_nodes.specs.Entries.{value_for}
use Rattle.std.proofs.Common.{List, rules, subst, sym, ◌∙◌, ◌≡◌}

pub value_of-requires : goal.value_of-requires
value_of-requires g c =
    let s = seen-as c.self.view_is (sym c.expand.ensures.value ∙ c.in-Some.is) c.requires.live in
    (search rules, (c.self.invariant, seen-asks _ s c.requires.increasing))

pub returns-in-Some : goal.returns-in-Some
returns-in-Some g c =
    let cmp = g.C.Comparator.order c.args.comp.now in
    let s = seen-as c.self.view_is (sym c.expand.ensures.value ∙ c.in-Some.is) c.requires.live in
    record { value = subst (λ (es : List (g.row.K.Denot × g.row.V.Denot)). c.value_of.result ≡ value_for cmp es c.args.key) s.list c.value_of.ensures.value }
