use Rattle.bforest_trees.proofs.ranges.Between.{at-most}
use Rattle.bforest_trees.proofs.Changed.{seen-as, seen-asks}
use Rattle.bforest_trees.proofs.trees.Trees.get_or_less.Goals as goal
use Rattle.bforest_core.specs.Leaves.{entry_up_to}
use Rattle.std.proofs.Common.{List, rules, subst, sym, ◌∙◌, ◌≡◌}

pub entry_at_most-requires : goal.entry_at_most-requires
entry_at_most-requires g c =
    let s = seen-as c.self.view_is (sym c.expand.ensures.value ∙ c.in-Some.is) c.requires.live in
    (search rules, (c.self.invariant, seen-asks _ s c.requires.increasing))

pub returns-in-Some : goal.returns-in-Some
returns-in-Some g c =
    let cmp = g.C.Comparator.order c.args.comp.now in
    let k = c.args.key in
    let s = seen-as c.self.view_is (sym c.expand.ensures.value ∙ c.in-Some.is) c.requires.live in
    let entry = subst (λ (es : List (g.row.K.Denot × g.row.V.Denot)). c.entry_at_most.result ≡ entry_up_to cmp es k) s.list c.entry_at_most.ensures.entry in
    record { value = entry ∙ at-most cmp (g.met.C.Comparator.total c.args.comp.now) k _ c.requires.increasing }
