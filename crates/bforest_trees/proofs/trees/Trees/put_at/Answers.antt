use Rattle.bforest_trees.proofs.After.{handed-on}
use Rattle.bforest_trees.proofs.Entering.{AtGap, added, at-key, refused}
use Rattle.bforest_trees.proofs.trees.Trees.put_at.Goals as goal
use Rattle.bforest_core.specs.Paths.{Placing}
use Rattle.std.proofs.Common.{refl, rules}

pub insert_full-requires : goal.insert_full-requires
insert_full-requires g c =
    let e : Placing c.self.inside.pool c.args.path.now = record { root = c.requires.placed.0; place = c.requires.placed.1; placed = rw (← c.self.view_is) at c.requires.placed.3 } in
    (search rules, (search rules, (c.self.invariant, (e, rw (← c.self.view_is) at c.requires.full))))

pub returns-in_err-root : goal.returns-in_err-root
returns-in_err-root g c = let told = c.in_err-root.ensures in
    rw (handed-on c.from_residual.ensures.1, told.refused_pool, ← c.self.view_is) (λ root order is live total up none placed.
    let s : AtGap order c.self.inside.pool root c.args.key c.args.path.now = record { gap = record { live = live; none = none }; placed = placed } in
    rw is (refused s.gap (told.full (at-key s)) up refl (told.memory (at-key s)) (told.enough (at-key s))))

pub invariant_of-self-2 : goal.invariant_of-self-2
invariant_of-self-2 g c =
    let e : Placing c.self.inside.pool c.args.path.now = record { root = c.requires.placed.0; place = c.requires.placed.1; placed = rw (← c.self.view_is) at c.requires.placed.3 } in
    (c.in_ok-root.ensures.inserted e).union

pub returns : goal.returns
returns g c = let told = c.in_ok-root.ensures in
    rw (c.some.ensures.node, ← c.self.view_is) (λ root order is live total up none placed.
    let s : AtGap order c.self.inside.pool root c.args.key c.args.path.now = record { gap = record { live = live; none = none }; placed = placed } in
    added s.gap (told.full (at-key s)) total up refl (told.inserted (at-key s)) (told.account (at-key s)) (told.same_root (at-key s)))
