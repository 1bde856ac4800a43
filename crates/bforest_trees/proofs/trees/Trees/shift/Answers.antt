use Rattle.bforest_trees.proofs.Changed.{seen-as, seen-asks}
use Rattle.bforest_trees.proofs.Shifting.{shifts, shifts-none}
use Rattle.bforest_trees.proofs.Spots.{found-points}
use Rattle.bforest_trees.proofs.trees.Trees.shift.Goals as goal
use Rattle.bforest_core.specs.Levels.{flat}
use Rattle.bforest_core.specs.Trees.{tree_of}
use Rattle.bforest_nodes.specs.Entries.{place}
use Rattle.std.proofs.Common.{None, Some, refl, rules, sym, ◌∙◌, ◌≡◌}

pub find-value-requires : goal.find-value-requires
find-value-requires g c =
    let s = seen-as c.self.view_is (sym c.expand.ensures.value ∙ c.in-Some.is) c.requires.live in
    (search rules, (search rules, (c.self.invariant, seen-asks _ s c.requires.increasing)))

pub normalize-requires : goal.normalize-requires
normalize-requires g c =
    let cmp = g.C.Comparator.order c.args.comp.now in let p = c.self.inside.pool in let n = c.in-Some.root in
    let points = found-points cmp p n c.find-value.new.self c.args.from c.find-value.ensures.present c.find-value.ensures.absent in
    (search rules, (search rules, (c.self.invariant, (λ some. record { root = n; place = place cmp (flat (tree_of p.nodes n).leaves) c.args.from; to = points }))))

pub shift-requires : goal.shift-requires
shift-requires g c =
    let cmp = g.C.Comparator.order c.args.comp.now in let p = c.self.inside.pool in let n = c.in-Some.root in
    let points = found-points cmp p n c.find-value.new.self c.args.from c.find-value.ensures.present c.find-value.ensures.absent in
    let first = place cmp (flat (tree_of p.nodes n).leaves) c.args.from in
    let at = c.normalize.ensures.stands (record { root = n; place = first; to = points }) in
    let handle : c.args.handle ≡ Some n = sym c.expand.ensures.value ∙ c.in-Some.is in
    let s = seen-as {h = Some n} refl refl (rw (← c.self.view_is, handle) at c.requires.live) in
    (search rules, (search rules, (c.self.invariant, (first, at, rw (← s.list) at (rw (← c.self.view_is, handle) at c.requires.callable)))))

pub invariant_of-self : goal.invariant_of-self
invariant_of-self g c =
    let cmp = g.C.Comparator.order c.args.comp.now in let p = c.self.inside.pool in let n = c.in-Some.root in
    let points = found-points cmp p n c.find-value.new.self c.args.from c.find-value.ensures.present c.find-value.ensures.absent in
    let first = place cmp (flat (tree_of p.nodes n).leaves) c.args.from in
    (c.shift.ensures first (c.normalize.ensures.stands (record { root = n; place = first; to = points }))).changes.union

pub returns-in-Some : goal.returns-in-Some
returns-in-Some g c =
    let cmp = g.C.Comparator.order c.args.comp.now in let p = c.self.inside.pool in let n = c.in-Some.root in
    let handle : c.args.handle ≡ Some n = sym c.expand.ensures.value ∙ c.in-Some.is in
    let s = seen-as {h = Some n} refl refl (rw (← c.self.view_is, handle) at c.requires.live) in
    let points = found-points cmp p n c.find-value.new.self c.args.from c.find-value.ensures.present c.find-value.ensures.absent in
    let first = place cmp (flat (tree_of p.nodes n).leaves) c.args.from in
    rw (handle, ← c.self.view_is, ← s.list) (shifts s.root (c.shift.ensures first (c.normalize.ensures.stands (record { root = n; place = first; to = points }))))

pub returns-in_default : goal.returns-in_default
returns-in_default g c =
    let none : c.args.handle ≡ None = sym c.expand.ensures.value ∙ c.in_default.is in
    rw none (shifts-none c.args.self.now _)
