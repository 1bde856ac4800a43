use Rattle.bforest_trees.proofs.Changed.{seen-as}
use Rattle.bforest_trees.proofs.trees.Trees.len.Goals as goal
use Rattle.std.proofs.Common.{ap, length, rules, sym, ◌∙◌}

pub tree_entries-requires : goal.tree_entries-requires
tree_entries-requires g c =
    let s = seen-as c.self.view_is (sym c.expand.ensures.value ∙ c.in-Some.is) c.requires.live in
    (search rules, (c.self.invariant, s.root))

pub returns-in-Some : goal.returns-in-Some
returns-in-Some g c =
    let s = seen-as c.self.view_is (sym c.expand.ensures.value ∙ c.in-Some.is) c.requires.live in
    record { count = c.tree_entries.ensures.value ∙ ap length s.list }
