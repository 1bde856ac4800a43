use Rattle.bforest_trees.proofs.Changed.{seen-as}
use Rattle.bforest_trees.proofs.trees.Trees.first_entry.Goals as goal
use Rattle.std.proofs.Common.{rules, sym, ◌∙◌}

pub first_entry-requires : goal.first_entry-requires
first_entry-requires g c =
    let s = seen-as c.self.view_is (sym c.expand.ensures.value ∙ c.in-Some.is) c.requires.live in
    (search rules, (c.self.invariant, s.root))

pub returns-in-Some : goal.returns-in-Some
returns-in-Some g c =
    let s = seen-as c.self.view_is (sym c.expand.ensures.value ∙ c.in-Some.is) c.requires.live in
    record { entry = rw (← s.list) (sym c.first_entry.ensures.entry) }
