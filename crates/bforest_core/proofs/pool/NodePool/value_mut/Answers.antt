use Rattle.bforest_core.proofs.{Words.{rules, refl, sym, ap, ◌≡◌, ◌∙◌, subst, arith, IsLeaf, entry_count, with_node}, table.Stored.some_same}
use Rattle.bforest_core.proofs.table.Read.{slot-is}
use Rattle.bforest_nodes.specs.Content.{with_value}
use Rattle.bforest_core.proofs.pool.NodePool.value_mut.Goals as goal

pub node_mut-requires : goal.node_mut-requires
node_mut-requires g c = (search rules, (search rules, c.requires.used))

pub value_mut-requires : goal.value_mut-requires
value_mut-requires g c = let e = c.requires.entry in let same : c.node_mut.result.now ≡ e.content = some_same (sym c.node_mut.ensures.value ∙ e.is) in
    (search rules, (subst IsLeaf (sym same) e.leaf, (let n = ap entry_count same in omega (arith, n, e.within))))

pub returns : goal.returns
returns g c = (
  (
    refl,
    λ w. ap (λ z. with_node c.args.self.now c.args.node (with_value z c.args.index w))
        (sym (slot-is c.args.self.now.nodes c.args.node c.node_mut.ensures.value)),
  ),
  record { writes_back = tt; value = rw c.node_mut.ensures.value (sym c.value_mut.ensures.value) },
)
