use Rattle.std.proofs.Common.{ap, rules, sym, ◌∙◌}
use Rattle.bforest_nodes.specs.Layout.{content_of}
use Rattle.bforest_nodes.proofs.Filling.{front-all, front-first}
use Rattle.bforest_nodes.proofs.node.NodeData.leaf_of.Goals as goal

pub fill-requires : goal.fill-requires
fill-requires g c = (
  search rules,
  (
    c.requires.some,
    (
      c.requires.few,
      front-first (g.S.Source.list c.args.entries) c.entry-key.ensures c.in-Entries.size c.in-Entries.leaf (sym (ap content_of c.in-Entries.is) ∙ c.self.view_is ∙ c.leaf.ensures.node),
    ),
  ),
)

pub returns : goal.returns
returns g c = record { node = front-all (g.S.Source.list c.args.entries) c.len.result c.len.ensures c.fill.ensures.filled }
