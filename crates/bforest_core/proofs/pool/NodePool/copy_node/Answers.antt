use Rattle.bforest_core.proofs.{Words.{rules, ap, sym, with_front, ◌∙◌}, table.Stored.some_same}
use Rattle.bforest_core.proofs.pool.NodePool.copy_node.Goals as goal

pub node-requires : goal.node-requires
node-requires g c = (search rules, (search rules, c.requires.used.within))

pub returns : goal.returns
returns g c = let t = c.args.self.now in record {
  table = λ content slot. c.add_node.ensures.table ∙ ap (λ z. with_front t t.chain z) (c.copied-content.ensures.node ∙ some_same (sym c.node.ensures.value ∙ slot));
  used = search rules;
  node = search rules;
}
