use Rattle.bforest_core.proofs.{Words.{rules, ap, slice_get, subst, sym, ◌∙◌, slice_get_within, IsLeaf, leaf_content, vals_of}, walks.Entered.pair_answer}
use Rattle.bforest_core.proofs.table.Stored.{some_same}
use Rattle.bforest_nodes.specs.Content.{keys_of}
use Rattle.bforest_core.proofs.access.leaf_entry.Goals as goal

pub node-requires : goal.node-requires
node-requires g c = (search rules, (search rules, slice_get_within _ _ (leaf_content c.requires.0) c.requires.1))

pub get_entry-requires : goal.get_entry-requires
get_entry-requires g c = (search rules, subst IsLeaf (some_same (sym c.requires.1 ∙ c.node.ensures.value)) tt)

pub returns-clause-value : goal.returns-clause-value
returns-clause-value g c = λ es slot. let content = some_same (sym c.node.ensures.value ∙ slot) in let i = c.args.index in
    pair_answer es i c.get_entry.result (c.get_entry.ensures.key ∙ ap (λ z. slice_get (keys_of z) i) content) (c.get_entry.ensures.value ∙ ap (λ z. slice_get (vals_of z) i) content)
