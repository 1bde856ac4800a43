use Rattle.bforest_trees.proofs.After.{handed-on}
use Rattle.bforest_trees.proofs.Entering.{added-absent, refused-absent}
use Rattle.bforest_trees.proofs.trees.Trees.insert_absent.Goals as goal
use Rattle.bforest_core.specs.Paths.{list_under}
use Rattle.bforest_nodes.specs.Entries.{place}
use Rattle.std.proofs.Common.{refl, rules}

pub insert_on-requires : goal.insert_on-requires
insert_on-requires g c = let a = rw (← c.self.view_is) at c.requires.absent.1 in
    (search rules, (c.self.invariant, (c.requires.most, (place c.requires.absent.0 (list_under c.self.inside.pool c.args.root) c.args.key, a.placed))))

pub invariant_of-self : goal.invariant_of-self
invariant_of-self g c = let a = rw (← c.self.view_is) at c.requires.absent.1 in
    let told = c.in_err-root.ensures.put _ a.placed in rw told.refused c.self.invariant

pub returns-in_err-root : goal.returns-in_err-root
returns-in_err-root g c = let none = handed-on c.from_residual.ensures.1 in record {
  inserted = λ order a. let gap = rw (← c.self.view_is) at a in let told = c.in_err-root.ensures.put _ gap.placed in
      rw (none, c.requires.root, told.refused, ← c.self.view_is) (refused-absent gap told);
  value = rw none tt;
}

pub invariant_of-self-2 : goal.invariant_of-self-2
invariant_of-self-2 g c = let a = rw (← c.self.view_is) at c.requires.absent.1 in (c.in_ok-root.ensures.put _ a.placed).inserted.union

pub returns : goal.returns
returns g c = record {
  inserted = λ order a. let gap = rw (← c.self.view_is) at a in
      rw (c.some.ensures.node, ← c.self.view_is) (added-absent gap (c.in_ok-root.ensures.put _ gap.placed));
  value = refl;
}
