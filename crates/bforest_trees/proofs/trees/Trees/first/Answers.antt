use Rattle.bforest_trees.proofs.Spots.{computed}
use Rattle.bforest_trees.proofs.Changed.{seen-as}
use Rattle.bforest_trees.proofs.trees.Trees.first.Goals as goal
use Rattle.std.proofs.Common.{List, Some, slice_get, subst, sym, ◌∙◌, ◌≡◌, rules}

pub returns-clause-value : goal.returns-clause-value
returns-clause-value g c =
    let s = seen-as c.self.view_is (sym c.expand.ensures.value ∙ c.in_ok-root.was) c.requires.live in
    sym (subst (λ (es : List (g.row.K.Denot × g.row.V.Denot)). slice_get es 0 ≡ Some c.first.result) s.list c.first.ensures.value)

pub returns-clause-computed : goal.returns-clause-computed
returns-clause-computed g c = rw (← c.self.view_is) (computed g.row.N c.self.inside.pool c.args.handle c.self.invariant)

pub returns-clause-spot : goal.returns-clause-spot
returns-clause-spot g c = search rules
