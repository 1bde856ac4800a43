use Rattle.bforest_trees.proofs.Spots.{computed}
use Rattle.bforest_trees.proofs.Changed.{seen-as, seen-asks}
use Rattle.bforest_trees.proofs.Spots.{found-points, spot-empty}
use Rattle.bforest_trees.proofs.trees.Trees.goto.Goals as goal
use Rattle.bforest_trees.specs.Forest.{Forest, list_of}
use Rattle.bforest_trees.specs.Place.{IsComputed, IsSpot}
use Rattle.bforest_core.specs.Levels.{flat}
use Rattle.bforest_core.specs.Trees.{tree_of}
use Rattle.bforest_nodes.specs.Entries.{place, value_for}
use Rattle.std.proofs.Common.{List, None, Option, Some, ap, rules, subst, sym, ◌∙◌, ◌≡◌, ℕ}

pub returns-in_err-root : goal.returns-in_err-root
returns-in_err-root g c =
    let cmp = g.C.Comparator.order c.args.comp.now in
    let f = c.args.self.now in
    let none : c.args.handle ≡ None = sym c.expand.ensures.value ∙ c.in_err-root.was in
    record {
      value = c.from_residual.ensures ∙ sym (ap (λ (o : Option ℕ). value_for cmp (list_of f o) c.args.key) none);
      spot = spot-empty f c.args.path.now c.args.handle c.requires.stands.place (place cmp (list_of f c.args.handle) c.args.key) none (ap (λ (o : Option ℕ). place cmp (list_of f o) c.args.key) none) c.requires.stands.spot;
      computed = subst (λ (o : Option ℕ). IsComputed g.row.N f o) (sym none) (λ path at stands. sym stands.1);
    }

pub find-value-requires : goal.find-value-requires
find-value-requires g c =
    let cmp = g.C.Comparator.order c.args.comp.now in
    let s = seen-as c.self.view_is (sym c.expand.ensures.value ∙ c.in_ok-root.was) c.requires.live in
    (search rules, (search rules, (c.self.invariant, seen-asks _ s c.requires.increasing)))

pub normalize-requires : goal.normalize-requires
normalize-requires g c =
    let cmp = g.C.Comparator.order c.args.comp.now in
    let p = c.self.inside.pool in
    let n = c.in_ok-root.root in
    let points = found-points cmp p n c.find-value.new.self c.args.key c.find-value.ensures.present c.find-value.ensures.absent in
    (search rules, (search rules, (c.self.invariant, (λ some. record { root = n; place = place cmp (flat (tree_of p.nodes n).leaves) c.args.key; to = points }))))

pub returns-clause-value : goal.returns-clause-value
returns-clause-value g c =
    let cmp = g.C.Comparator.order c.args.comp.now in
    let s = seen-as c.self.view_is (sym c.expand.ensures.value ∙ c.in_ok-root.was) c.requires.live in
    subst (λ (es : List (g.row.K.Denot × g.row.V.Denot)). c.find-value.result ≡ value_for cmp es c.args.key) s.list c.find-value.ensures.value

pub returns-clause-spot : goal.returns-clause-spot
returns-clause-spot g c =
    let cmp = g.C.Comparator.order c.args.comp.now in
    let p = c.self.inside.pool in
    let n = c.in_ok-root.root in
    let new = c.normalize.new.self in
    let handle : c.args.handle ≡ Some n = sym c.expand.ensures.value ∙ c.in_ok-root.was in
    let s = seen-as c.self.view_is handle c.requires.live in
    let points = found-points cmp p n c.find-value.new.self c.args.key c.find-value.ensures.present c.find-value.ensures.absent in
    let at = c.normalize.ensures.stands (record { root = n; place = place cmp (flat (tree_of p.nodes n).leaves) c.args.key; to = points }) in
    subst (λ (z : Forest g.row.K.Denot g.row.V.Denot). IsSpot z c.args.handle new (place cmp (list_of c.args.self.now c.args.handle) c.args.key)) c.self.view_is
    (subst (λ (h : Option ℕ). IsSpot p h new (place cmp (list_of c.args.self.now c.args.handle) c.args.key)) (sym handle)
    (subst (λ (es : List (g.row.K.Denot × g.row.V.Denot)). IsSpot p (Some n) new (place cmp es c.args.key)) s.list at))

pub returns-clause-computed : goal.returns-clause-computed
returns-clause-computed g c = rw (← c.self.view_is) (computed g.row.N c.self.inside.pool c.args.handle c.self.invariant)
