use Rattle.bforest_trees.proofs.Changed.{live-root, root-live}
use Rattle.bforest_trees.proofs.trees.Trees.holds.Goals as goal
use Rattle.bforest_trees.specs.Forest.{Forest, IsLive}
use Rattle.std.proofs.Common.{IsTrue, Option, Some, subst, sym, ◌∙◌, ◌↔◌, ◌≡◌, ℕ}

pub returns-in-Some : goal.returns-in-Some
returns-in-Some g c =
    let p = c.self.inside.pool in
    let r = c.in-Some.root in
    let handle : Some r ≡ c.args.handle = sym c.in-Some.is ∙ c.expand.ensures.value in
    let here : IsTrue c.is_root.result ↔ IsLive p (Some r) = (
      λ t. root-live g.row.N p r c.self.invariant (sym c.is_root.ensures.value ∙ t),
      λ live. c.is_root.ensures.value ∙ live-root p r live,
    ) in
    let there : IsTrue c.is_root.result ↔ IsLive p c.args.handle = subst (λ (h : Option ℕ). IsTrue c.is_root.result ↔ IsLive p h) handle here in
    record { live = subst (λ (f : Forest g.row.K.Denot g.row.V.Denot). IsTrue c.is_root.result ↔ IsLive f c.args.handle) c.self.view_is there }
