use Rattle.bforest_trees.proofs.After.{handed-on}
use Rattle.bforest_trees.proofs.Changed.{live-root, seen-as}
use Rattle.bforest_trees.proofs.Cloning.{clones-err, clones-none, clones-ok}
use Rattle.bforest_trees.proofs.trees.Trees.copy_tree.Goals as goal
use Rattle.std.proofs.Common.{rules, sym, ◌∙◌}

pub copy_tree-requires : goal.copy_tree-requires
copy_tree-requires g c =
    let s = seen-as c.self.view_is (sym c.expand.ensures.value ∙ c.in-Some.is) c.requires.live in
    (search rules, (c.self.invariant, s.root))

pub returns-in_err-copy-in-Some : goal.returns-in_err-copy-in-Some
returns-in_err-copy-in-Some g c =
    let is = sym c.expand.ensures.value ∙ c.in-Some.is in let told = c.in_err-copy-in-Some.ensures in let p = c.self.inside.pool in
    let live = rw (← c.self.view_is, is) at c.requires.live in
    rw (handed-on c.from_residual.ensures.1, is, told.err, ← c.self.view_is) (clones-err p c.in-Some.root live (live-root p c.in-Some.root live) told.full told.memory told.enough)

pub returns-in_ok-copy-in-Some : goal.returns-in_ok-copy-in-Some
returns-in_ok-copy-in-Some g c =
    let is = sym c.expand.ensures.value ∙ c.in-Some.is in let told = c.in_ok-copy-in-Some.ensures in let p = c.self.inside.pool in
    let live = rw (← c.self.view_is, is) at c.requires.live in
    rw (c.some.ensures.node, is, ← c.self.view_is) (clones-ok p c.in-Some.root live (live-root p c.in-Some.root live) told.planted (λ low. let bad = told.full.1 low in cc))

pub returns-in-None : goal.returns-in-None
returns-in-None g c = rw (c.none.ensures.none, sym c.expand.ensures.value ∙ c.in-None.is) (clones-none c.args.self.now)
