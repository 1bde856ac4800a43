use Rattle.bforest_trees.proofs.After.{handed-on}
use Rattle.bforest_trees.proofs.Inserting.{inserts-none, inserts-planted}
use Rattle.bforest_trees.proofs.trees.Trees.put_first.Goals as goal

pub invariant_of-self-2 : goal.invariant_of-self-2
invariant_of-self-2 g c = (c.in_ok-root.ensures.planted c.self.invariant).changes.union

pub returns : goal.returns
returns g c = λ order total. rw (c.some.ensures.node, ← c.self.view_is)
    (inserts-planted order (c.in_ok-root.ensures.planted c.self.invariant) (λ low. let bad = c.in_ok-root.ensures.full.1 low in cc) total)

pub returns-in_err-root : goal.returns-in_err-root
returns-in_err-root g c = λ order total. let told = c.in_err-root.ensures in
    rw (handed-on c.from_residual.ensures.1, c.requires.empty, told.err, ← c.self.view_is) (inserts-none order told.full told.memory told.enough)
