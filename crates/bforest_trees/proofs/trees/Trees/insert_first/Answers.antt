use Rattle.bforest_trees.proofs.After.{handed-on}
use Rattle.bforest_trees.proofs.Inserting.{inserts-none, inserts-planted}
use Rattle.bforest_core.proofs.walks.Standing.{on-at}
use Rattle.bforest_trees.proofs.trees.Trees.insert_first.Goals as goal
use Rattle.std.proofs.Common.{refl, rules}

pub first-requires : goal.first-requires
first-requires g c = let at = c.in_ok-root.ensures.planted c.self.invariant in (search rules, (search rules, (at.changes.union, at.changes.root_is)))

pub invariant_of-self-2 : goal.invariant_of-self-2
invariant_of-self-2 g c = (c.in_ok-root.ensures.planted c.self.invariant).changes.union

pub returns-clause-inserted : goal.returns-clause-inserted
returns-clause-inserted g c = λ order total. rw (c.some.ensures.node, ← c.self.view_is)
    (inserts-planted order (c.in_ok-root.ensures.planted c.self.invariant) (λ low. let bad = c.in_ok-root.ensures.full.1 low in cc) total)

pub returns-clause-spot : goal.returns-clause-spot
returns-clause-spot g c = rw c.some.ensures.node (on-at c.alloc_node.new.self c.first.new.self c.first.ensures.stands)

pub returns-in_err-root-clause-inserted : goal.returns-in_err-root-clause-inserted
returns-in_err-root-clause-inserted g c = λ order total. let told = c.in_err-root.ensures in
    rw (handed-on c.from_residual.ensures.1, c.requires.empty, told.err, ← c.self.view_is) (inserts-none order told.full told.memory told.enough)

pub returns-in_err-root-clause-spot : goal.returns-in_err-root-clause-spot
returns-in_err-root-clause-spot g c = rw c.requires.empty (c.requires.stands, refl)

pub returns-clause-union : goal.returns-clause-union
returns-clause-union g c = invariant_of-self-2 g c

pub returns-in_err-root-clause-union : goal.returns-in_err-root-clause-union
returns-in_err-root-clause-union g c = rw c.in_err-root.ensures.err c.self.invariant
