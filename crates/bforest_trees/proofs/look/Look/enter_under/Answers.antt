use Rattle.std.proofs.Common.{Some, refl, rules, sym, ◌∙◌}
use Rattle.std.proofs.lemmas.Bool.{false≢true}
use Rattle.std.proofs.lemmas.Option.{slice_get_within}
use Rattle.bforest_core.proofs.walks.CodesDown.{root-held}
use Rattle.bforest_trees.proofs.Held.{from-first, from-only}
use Rattle.bforest_trees.specs.Looks.{LeafFrom}
use Rattle.bforest_trees.proofs.look.Look.enter_under.Goals as goal

pub node-requires : goal.node-requires
node-requires g c =
    let held = root-held c.requires.union c.args.root c.requires.root in
    (search rules, (search rules, slice_get_within c.args.pool.now.nodes c.args.root held.0 held.1))

pub enter_leaf-requires : goal.enter_leaf-requires
enter_leaf-requires g c = (
  search rules,
  (
    Some c.args.root,
    0,
    from-only c.requires.union c.requires.root c.node.ensures.value
        (λ inner. false≢true (sym c.if-not-is_inner.true ∙ c.is_inner.ensures.inner.1 inner)) c.root.result c.root.ensures.code c.root.ensures.height,
  ),
)

pub returns-then-not-is_inner : goal.returns-then-not-is_inner
returns-then-not-is_inner g c =
    let only : LeafFrom c.args.pool.now (Some c.args.root) c.root.result c.args.root 0 = from-only c.requires.union c.requires.root c.node.ensures.value
    (λ inner. false≢true (sym c.if-not-is_inner.true ∙ c.is_inner.ensures.inner.1 inner)) c.root.result c.root.ensures.code c.root.ensures.height in
    record { value = c.enter_leaf.ensures.value (Some c.args.root) 0 only; look = c.enter_leaf.ensures.look (Some c.args.root) 0 only }

pub enter_leaf-requires-2 : goal.enter_leaf-requires-2
enter_leaf-requires-2 g c = (search rules, (Some c.args.root, 0, from-first refl c.first-spot.ensures.spot c.first-spot.ensures.leaf))

pub returns : goal.returns
returns g c =
    let first = from-first refl c.first-spot.ensures.spot c.first-spot.ensures.leaf in
    record { value = c.enter_leaf-2.ensures.value (Some c.args.root) 0 first; look = c.enter_leaf-2.ensures.look (Some c.args.root) 0 first }
