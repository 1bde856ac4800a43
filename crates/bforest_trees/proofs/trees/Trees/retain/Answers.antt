use Rattle.bforest_trees.proofs.Changed.{seen-as}
use Rattle.bforest_trees.proofs.Retaining.{filters, union-kept}
use Rattle.bforest_trees.proofs.trees.Trees.retain.Goals as goal
use Rattle.bforest_trees.specs.Retain.{MayAskEach}
use Rattle.std.proofs.Common.{List, Some, refl, rules, subst, sym, ◌∙◌, ◌≡◌, ℕ}

pub retain-requires : goal.retain-requires
retain-requires g c =
    let handle : c.args.handle.now ≡ Some c.in-Some.root = sym c.expand.ensures.value ∙ c.in-Some.is in
    let s = seen-as c.self.view_is handle c.requires.live in
    (search rules, (c.self.invariant, (s.root, subst (λ (l : List (g.row.K.Denot × g.row.V.Denot)). MayAskEach g.P.Predicate.step g.P.Predicate.may c.args.predicate l) (sym s.list) c.requires.callable)))

pub invariant_of-self : goal.invariant_of-self
invariant_of-self g c =
    union-kept g.P.Predicate.step g.row.N c.self.inside.pool c.retain.new.pool c.in-Some.root c.args.predicate c.retain.result c.retain.ensures.retained c.retain.ensures.ended

pub returns-in-Some : goal.returns-in-Some
returns-in-Some g c =
    let p = c.self.inside.pool in
    let n : ℕ = c.in-Some.root in
    let handle : c.args.handle.now ≡ Some n = sym c.expand.ensures.value ∙ c.in-Some.is in
    let s = seen-as {h = Some n} refl refl (rw (← c.self.view_is, handle) at c.requires.live) in
    rw (c.packed.ensures, handle, ← c.self.view_is) (filters g.P.Predicate.step g.row.N p c.retain.new.pool n c.args.predicate c.retain.result s.list s.sizes c.retain.ensures.retained c.retain.ensures.ended)
