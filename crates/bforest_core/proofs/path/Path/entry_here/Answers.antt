use Rattle.bforest_core.proofs.Words.{rules, subst, refl, get_or, slice_get, sym, ap, ◌∙◌, arith, slice_get_within, IsLeaf, entry_count, vals_of, leaf_content}
use Rattle.bforest_core.proofs.{walks.Entered.{key_total, leaf_is, pair_read}, walks.Steps.at_index}
use Rattle.bforest_nodes.specs.Content.{keys_of}
use Rattle.bforest_core.proofs.path.Path.entry_here.Goals as goal

pub returns : goal.returns
returns g c = λ es slot. let content = leaf_is c.args.pool.now.nodes c.args.self.now.node c.index-self-0.result es (omega arith) c.node.ensures.value slot in
    let i = get_or c.args.self.now.entry 0 0 in
    pair_read es i (ap (λ z. slice_get (keys_of z) i) (sym content) ∙ c.entry.ensures.key) (ap (λ z. slice_get (vals_of z) i) (sym content) ∙ c.entry.ensures.value)

pub node-requires : goal.node-requires
node-requires g c = (search rules, (search rules, slice_get_within c.args.pool.now.nodes _ (leaf_content c.requires.0) (at_index _ c.args.self.now.node c.index-self-0.result (omega arith) refl c.requires.1)))

pub entry-requires : goal.entry-requires
entry-requires g c =
    let content = leaf_is c.args.pool.now.nodes c.args.self.now.node c.index-self-0.result c.requires.0 (omega arith) c.node.ensures.value c.requires.1 in
    (search rules, (subst IsLeaf (sym content) tt, omega (arith, ap entry_count content, key_total c.requires.0)))
