use Rattle.bforest.proofs.Sides.{all-keys}
use Rattle.bforest.proofs.set.Set.union.Goals as goal
use Rattle.bforest.specs.Forest.{list_of}
use Rattle.bforest_trees.proofs.unions.Merging.{united-up}
use Rattle.bforest.specs.Union.{united}
use Rattle.std.proofs.Common.{subst, sym}
use Rattle.std.specs.List.Sorted.{IsStrictlySortedBy}

pub returns-clause-keys : goal.returns-clause-keys
returns-clause-keys g c = all-keys g.C.Comparator.order (list_of c.args.forest.now c.args.self.now) (list_of c.args.forest.now c.args.other.now) c.new.ensures.keys united

pub returns-clause-increasing : goal.returns-clause-increasing
returns-clause-increasing g c = subst (IsStrictlySortedBy (g.C.Comparator.order c.args.comp.now)) (sym (returns-clause-keys g c)) (united-up (g.C.Comparator.order c.args.comp.now) (g.met.C.Comparator.total c.args.comp.now) (list_of c.args.forest.now c.args.self.now) (list_of c.args.forest.now c.args.other.now) c.requires.searchable.increasing)
