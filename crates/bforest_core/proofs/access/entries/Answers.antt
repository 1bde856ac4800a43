use Rattle.bforest_core.proofs.{Words.{rules, ap, sym, ◌∙◌, slice_get_within, IsFree, entry_count}, table.Stored.{read_as, some_same}}
use Rattle.bforest_core.proofs.access.entries.Goals as goal

pub node-requires : goal.node-requires
node-requires g c = (search rules, (search rules, slice_get_within _ _ c.requires.0 c.requires.1))

pub entries-requires : goal.entries-requires
entries-requires g c = (search rules, read_as c.requires.1 c.node.ensures.value (λ z. ¬ IsFree z) c.requires.2)

pub returns : goal.returns
returns g c = record {
  value = λ content slot. c.entries.ensures.value ∙ ap entry_count (some_same (sym c.node.ensures.value ∙ slot));
  most = c.entries.ensures.most;
}
