use Rattle.bforest.proofs.Sides.{all-keys}
use Rattle.bforest.proofs.set.Set.difference.Goals as goal
use Rattle.bforest.specs.Forest.{list_of}
use Rattle.bforest_trees.proofs.unions.Restricting.{up-kept}
use Rattle.bforest.specs.Union.{kept_from}
use Rattle.std.proofs.Common.{false, subst, sym}
use Rattle.std.specs.List.Sorted.{IsStrictlySortedBy}

pub returns-clause-keys : goal.returns-clause-keys
returns-clause-keys g c = all-keys g.C.Comparator.order (list_of c.args.forest.now c.args.self.now) (list_of c.args.forest.now c.args.other.now) c.new.ensures.keys (λ cmp. kept_from cmp false)

pub returns-clause-increasing : goal.returns-clause-increasing
returns-clause-increasing g c = subst (IsStrictlySortedBy (g.C.Comparator.order c.args.comp.now)) (sym (returns-clause-keys g c)) (up-kept (g.C.Comparator.order c.args.comp.now) false (list_of c.args.forest.now c.args.other.now) (list_of c.args.forest.now c.args.self.now) c.requires.searchable.increasing)
