use Rattle.std.proofs.Common.{arith, sym, ◌∙◌}
use Rattle.bforest_nodes.proofs.Cuts.{capacity_of_inner, half_of_inner, joined-cut}
use Rattle.bforest_nodes.proofs.node.NodeData.split.Goals as goal

pub returns-then-is_inner : goal.returns-then-is_inner
returns-then-is_inner g c =
    let done = c.split_inner.ensures in
    let inner = c.is_inner.ensures.inner.0 c.if-is_inner.true in
    record {
      left_entries = done.left_entries ∙ sym (half_of_inner g.row.N c.args.insert_index c.args.self.now inner);
      all_entries = rw (done.left_entries, done.right_entries) (sym (c.requires.full ∙ capacity_of_inner g.row.N c.args.self.now inner));
      cut = rw done.left_entries done.cut;
      rejoins = joined-cut _ _ _ _ 4 (omega arith) c.requires.used done.cut;
    }

pub returns-else-is_inner : goal.returns-else-is_inner
returns-else-is_inner g c =
    let done = c.split_leaf.ensures in
    record {
      left_entries = done.left_entries;
      all_entries = done.all_entries;
      cut = done.cut;
      rejoins = joined-cut _ _ _ _ _ done.some c.requires.used done.cut;
    }
