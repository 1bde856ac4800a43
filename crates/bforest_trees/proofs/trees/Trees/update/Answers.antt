use Rattle.bforest_trees.proofs.Changed.{seen-as, seen-asks}
use Rattle.bforest_trees.proofs.values.Updating.{updated-union, updates}
use Rattle.bforest_trees.proofs.trees.Trees.update.Goals as goal
use Rattle.std.proofs.Common.{rules, sym, ◌∙◌}

pub update-requires : goal.update-requires
update-requires g c =
    let s = seen-as c.self.view_is (sym c.expand.ensures.value ∙ c.in-Some.is) c.requires.live in
    let asks = seen-asks _ s c.requires.increasing in
    (search rules, (c.self.invariant, (asks.0, (asks.1, rw (← s.list) at c.requires.callable))))

pub invariant_of-self : goal.invariant_of-self
invariant_of-self g c = updated-union c.self.invariant c.update.ensures

pub returns-in-Some : goal.returns-in-Some
returns-in-Some g c =
    let s = seen-as c.self.view_is (sym c.expand.ensures.value ∙ c.in-Some.is) c.requires.live in
    rw (sym c.expand.ensures.value ∙ c.in-Some.is, ← c.self.view_is) (updates c.self.invariant s.root (g.met.C.Comparator.total c.args.comp.now) (rw (← c.self.view_is, sym c.expand.ensures.value ∙ c.in-Some.is) at c.requires.increasing) c.update.ensures)
