use Rattle.bforest_trees.proofs.After.{handed-on}
use Rattle.bforest_trees.proofs.Loading.{loads-err, loads-none, loads-ok}
use Rattle.bforest_trees.proofs.trees.Trees.load_from.Goals as goal
use Rattle.std.proofs.Common.{ap, arith, length, rules, subst, sym, ◌∙◌, ◌≡◌}

pub returns-then-entries-eq0 : goal.returns-then-entries-eq0
returns-then-entries-eq0 g c = rw (c.none.ensures.none) (loads-none g.row.N c.args.self.now (g.S.LeafSource.left c.args.source.now c.args.self.now) (sym c.requires.all ∙ c.if-entries-eq0.true))

pub build_tree-requires : goal.build_tree-requires
build_tree-requires g c = (
  search rules,
  (
    c.self.invariant,
    (
      subst (λ z. g.S.LeafSource.reads c.args.source.now z) (sym c.self.view_is) c.requires.reads,
      (omega (arith, c.if-entries-eq0.false), c.requires.all ∙ ap (λ z. length (g.S.LeafSource.left c.args.source.now z)) (sym c.self.view_is)),
    ),
  ),
)

pub returns-in_err-root : goal.returns-in_err-root
returns-in_err-root g c = let told = c.in_err-root.ensures in let p = c.self.inside.pool in let list = g.S.LeafSource.left c.args.source.now p in
    let all : c.args.entries ≡ length list = c.requires.all ∙ ap (λ z. length (g.S.LeafSource.left c.args.source.now z)) (sym c.self.view_is) in
    rw (handed-on c.from_residual.ensures.1, told.err, ← c.self.view_is) (loads-err g.row.N p (omega (arith, c.self.invariant.1.capacity.least)) list (rw all at told.full) (rw all at told.memory) (rw all at told.enough))

pub returns : goal.returns
returns g c = let told = c.in_ok-root.ensures in let p = c.self.inside.pool in let list = g.S.LeafSource.left c.args.source.now p in
    let all : c.args.entries ≡ length list = c.requires.all ∙ ap (λ z. length (g.S.LeafSource.left c.args.source.now z)) (sym c.self.view_is) in
    rw (c.some.ensures.node, ← c.self.view_is) (loads-ok g.row.N p (omega (arith, c.self.invariant.1.capacity.least)) list (rw all at told.planted) (λ low. let bad = (rw all at told.full).1 low in cc))
