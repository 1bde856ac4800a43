use Rattle.bforest_trees.proofs.Changed.{seen-as}
use Rattle.bforest_trees.proofs.Measures.{leaves-sizes}
use Rattle.bforest_trees.proofs.trees.Trees.levels.Goals as goal
use Rattle.bforest_trees.specs.Forest.{first_level, sizes_of}
use Rattle.bforest_core.specs.Levels.{flat, half_of}
use Rattle.bforest_core.specs.Trees.{tree_of}
use Rattle.std.proofs.Common.{List, ap, length, rules, subst, sym, ◌*◌, ◌+◌, ◌-◌, ◌/◌, ◌^◌, ◌<◌, ◌∙◌, ◌≤◌, ℕ}

pub levels-requires : goal.levels-requires
levels-requires g c =
    let s = seen-as c.self.view_is (sym c.expand.ensures.value ∙ c.in-Some.is) c.requires.live in
    (search rules, (c.self.invariant, s.root))

pub returns-in-Some-clause-count : goal.returns-in-Some-clause-count
returns-in-Some-clause-count g c =
    let s = seen-as c.self.view_is (sym c.expand.ensures.value ∙ c.in-Some.is) c.requires.live in
    c.levels.ensures.value ∙ ap length s.sizes

pub returns-in-Some-clause-depth : goal.returns-in-Some-clause-depth
returns-in-Some-clause-depth g c =
    let s = seen-as c.self.view_is (sym c.expand.ensures.value ∙ c.in-Some.is) c.requires.live in
    λ two. subst (λ (es : List (g.row.K.Denot × g.row.V.Denot)). half_of g.row.N * 4 ^ (c.levels.result - 2) < length es) s.list (c.levels.ensures.depth two)

pub returns-in-Some-clause-leaves : goal.returns-in-Some-clause-leaves
returns-in-Some-clause-leaves g c =
    let p = c.self.inside.pool in
    let s = seen-as c.self.view_is (sym c.expand.ensures.value ∙ c.in-Some.is) c.requires.live in
    subst (λ (es : List (g.row.K.Denot × g.row.V.Denot)). length (first_level (sizes_of c.args.self.now c.args.handle)) ≤ (length es + (half_of g.row.N - 1)) / half_of g.row.N) s.list
    (subst (λ (ss : List (List ℕ)). length (first_level ss) ≤ (length (flat (tree_of p.nodes c.in-Some.root).leaves) + (half_of g.row.N - 1)) / half_of g.row.N) s.sizes
    (leaves-sizes (half_of g.row.N) (tree_of p.nodes c.in-Some.root) c.levels.ensures.leaves))
