use Rattle.std.proofs.Common.{rules, sym, ◌∙◌}
use Rattle.std.proofs.lemmas.Bool.{false≢true}
use Rattle.bforest_nodes.proofs.Cuts.{inner_beside, inner_under, leaf_under, leaves_beside}
use Rattle.bforest_nodes.proofs.node.NodeData.balance.Goals as goal

pub returns-then-is_inner : goal.returns-then-is_inner
returns-then-is_inner g c = record { balanced = c.balance_inner.ensures }

pub returns-else-is_inner : goal.returns-else-is_inner
returns-else-is_inner g c = record { balanced = c.balance_leaf.ensures c.args.crit_key }

pub balance_inner-requires : goal.balance_inner-requires
balance_inner-requires g c =
    let inner = c.is_inner.ensures.inner.0 c.if-is_inner.true in
    (search rules, (inner, (inner_beside c.args.self.now c.args.rhs.now inner c.requires.kind, (c.requires.filled, (c.requires.rhs_filled, inner_under g.row.N c.args.self.now inner c.requires.half_full)))))

pub balance_leaf-requires : goal.balance_leaf-requires
balance_leaf-requires g c =
    let leaves = leaves_beside c.args.self.now c.args.rhs.now (λ inner. false≢true (sym c.if-is_inner.false ∙ c.is_inner.ensures.inner.1 inner)) c.requires.kind in
    (search rules, (leaves.0, (leaves.1, (c.requires.rhs_filled, leaf_under g.row.N c.args.self.now leaves.0 c.requires.half_full))))
