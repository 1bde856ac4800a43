use Rattle.bforest_trees.proofs.trees.Trees.keep.Goals as goal
use Rattle.bforest_trees.proofs.unions.Restricting.{keeps-apart, keeps-beside, keeps-empty, keeps-one, walk-asks, walked-union}
use Rattle.std.proofs.Common.{rules}

pub returns-in_default : goal.returns-in_default
returns-in_default g c = keeps-empty c.requires c.expand.ensures.value (g.met.C.Comparator.total c.args.comp.now) c.args.present c.in_default.is

pub returns-in_default-expand : goal.returns-in_default-expand
returns-in_default-expand g c =
    let e = c.free_unless.ensures in
    keeps-apart c.requires c.expand.ensures.value c.in-Some.is c.expand-2.ensures.value (g.met.C.Comparator.total c.args.comp.now) c.args.present c.in_default-expand.is
    (record { told = e.told; stays = e.stays; same = e.same; cleared = e.cleared })

pub returns-then-eq : goal.returns-then-eq
returns-then-eq g c =
    let e = c.free_unless-then-eq.ensures in
    keeps-one c.requires c.expand.ensures.value c.in-Some.is c.expand-2.ensures.value c.in-Some-expand.is c.eq.ensures (g.met.C.Comparator.total c.args.comp.now) c.args.present c.if-eq.true
    (record { told = e.told; stays = e.stays; same = e.same; cleared = e.cleared })

pub keep-left-requires : goal.keep-left-requires
keep-left-requires g c =
    (search rules, (c.self.invariant, walk-asks c.requires c.expand.ensures.value c.in-Some.is c.expand-2.ensures.value c.in-Some-expand.is c.eq.ensures c.self.view_is c.if-eq.false))

pub invariant_of-self : goal.invariant_of-self
invariant_of-self g c = walked-union c.keep-left.ensures

pub returns : goal.returns
returns g c =
    keeps-beside c.requires c.expand.ensures.value c.in-Some.is c.expand-2.ensures.value c.in-Some-expand.is c.eq.ensures c.self.view_is (g.met.C.Comparator.total c.args.comp.now) c.args.present c.packed.ensures c.keep-left.ensures
