use Rattle.bforest_trees.proofs.Changed.{live-root}
use Rattle.bforest_trees.proofs.Popping.{popped-last, popped-none, popped-union}
use Rattle.bforest_trees.proofs.trees.Trees.pop_last.Goals as goal
use Rattle.std.proofs.Common.{refl, rules, sym, ◌∙◌}

pub take_last-last-requires : goal.take_last-last-requires
take_last-last-requires g c = let is = sym c.expand.ensures.value ∙ c.in_ok-root.was in
    (search rules, (c.self.invariant, live-root c.self.inside.pool c.in_ok-root.root (rw (← c.self.view_is, is) at c.requires.live)))

pub returns-in_err-root : goal.returns-in_err-root
returns-in_err-root g c = rw (c.from_residual.ensures, sym c.expand.ensures.value ∙ c.in_err-root.was) (popped-none g.row.N c.args.self.now)

pub invariant_of-self : goal.invariant_of-self
invariant_of-self g c = let is = sym c.expand.ensures.value ∙ c.in_ok-root.was in let told = c.take_last-last.ensures in
    popped-union (rw (← c.self.view_is, is) at c.requires.live) told.entry told.taken.1

pub returns : goal.returns
returns g c = let is = sym c.expand.ensures.value ∙ c.in_ok-root.was in let told = c.take_last-last.ensures in
    rw (c.packed.ensures, is, ← c.self.view_is) (popped-last (rw (← c.self.view_is, is) at c.requires.live) told.entry told.taken.1 refl)
