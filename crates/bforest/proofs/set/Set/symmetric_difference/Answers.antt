use Rattle.bforest.proofs.Sides.{all-keys}
use Rattle.bforest.proofs.set.Set.symmetric_difference.Goals as goal
use Rattle.bforest.specs.Forest.{list_of}
use Rattle.bforest_trees.proofs.unions.Merging.{united-up}
use Rattle.bforest_trees.proofs.unions.Restricting.{up-kept}
use Rattle.bforest.specs.Union.{kept_from, unshared}
use Rattle.std.proofs.Common.{false, subst, sym}
use Rattle.std.specs.List.Sorted.{IsStrictlySortedBy}

pub returns-clause-keys : goal.returns-clause-keys
returns-clause-keys g c = all-keys g.C.Comparator.order (list_of c.args.forest.now c.args.self.now) (list_of c.args.forest.now c.args.other.now) c.new.ensures.keys unshared

pub returns-clause-increasing : goal.returns-clause-increasing
returns-clause-increasing g c =
    let order = g.C.Comparator.order c.args.comp.now in
    let es = list_of c.args.forest.now c.args.self.now in
    let others = list_of c.args.forest.now c.args.other.now in
    subst (IsStrictlySortedBy order) (sym (returns-clause-keys g c)) (united-up order (g.met.C.Comparator.total c.args.comp.now) (kept_from order false es others) (kept_from order false others es) (up-kept order false others es c.requires.searchable.increasing))
